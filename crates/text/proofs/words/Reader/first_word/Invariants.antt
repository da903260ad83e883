use Rattle.std.proofs.Common.{length}
use Rattle.text.specs.Lines.{point, Skips}
use Rattle.text.proofs.words.Reader.first_word.Given as goal

abbrev pub invariant-loop-word : goal.invariant-loop-word
invariant-loop-word l = Skips (point l.initial.self) (point l.self)

abbrev pub decreases-loop-word : goal.decreases-loop-word
decreases-loop-word l = length l.self.rest.now
