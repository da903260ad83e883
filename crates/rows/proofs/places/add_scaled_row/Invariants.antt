use Rattle.std.proofs.Common.{min, length, get_or}
use Rattle.rows.specs.Rows.{Rewritten}
use Rattle.rows.proofs.places.add_scaled_row.Given as goal

abbrev pub invariant-loop-i : goal.invariant-loop-i
invariant-loop-i g l =
    let k = g.K.Kind in
    Rewritten k.means (min l.i (length l.source)) (λ i d. k.ring.plus (k.means (get_or l.initial.target i d)) (k.ring.times (k.means l.by) (k.means (get_or l.source i d)))) l.initial.target l.target
