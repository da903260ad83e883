use Rattle.rows.specs.Rows.{Rewritten}
use Rattle.rows.proofs.places.clear_row.Given as goal

abbrev pub invariant-loop-x : goal.invariant-loop-x
invariant-loop-x g l = let k = g.K.Kind in Rewritten k.means l.x-index (λ _ _. k.ring.zero) l.initial.target l.target
