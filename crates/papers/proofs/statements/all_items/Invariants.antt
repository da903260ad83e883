use Rattle.std.proofs.Common.{◌≡◌, List, ◌++◌, length}
use Rattle.text.specs.declared.words.Word.{Word}
use Rattle.text.specs.Lines.{point}
use Rattle.papers.specs.Papers.{ItemsLines}
use Rattle.papers.proofs.Whole.{Rest}
use Rattle.papers.proofs.statements.all_items.Given as goal

abbrev pub invariant-loop-word : goal.invariant-loop-word
invariant-loop-word l = (ws : List Word) × (l.items.items ≡ l.initial.items.items ++ ws) × ItemsLines (point l.initial.reader) ws (point l.reader) × (Rest (point l.initial.reader) → Rest (point l.reader))

abbrev pub decreases-loop-word : goal.decreases-loop-word
decreases-loop-word l = length l.reader.rest.now
