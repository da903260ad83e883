use Rattle.text.specs.Lines.{stay}
use Rattle.text.proofs.Cuts.{below_shorter, skips_on}
use Rattle.text.proofs.words.Reader.first_word.Goals as goal

pub loop-word-init : goal.loop-word-init
loop-word-init c = stay

pub loop-word-smaller : goal.loop-word-smaller
loop-word-smaller c = let empty = c.in_default.ensures in below_shorter (rw empty.1 at c.if-not-next_line.ensures)

pub loop-word-preserved : goal.loop-word-preserved
loop-word-preserved c = let empty = c.in_default.ensures in skips_on c.loop-word.invariant empty.0 (rw empty.1 at c.if-not-next_line.ensures)
