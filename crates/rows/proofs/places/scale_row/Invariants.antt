use Rattle.std.proofs.Common.{get_or}
use Rattle.rows.specs.Rows.{Rewritten}
use Rattle.rows.proofs.places.scale_row.Given as goal

abbrev pub invariant-loop-x : goal.invariant-loop-x
invariant-loop-x g l =
    let k = g.K.Kind in
    Rewritten k.means l.x-index (λ i d. k.ring.times (k.means l.by) (k.means (get_or l.initial.target i d))) l.initial.target l.target
