use Rattle.std.proofs.Common.{rules, ◌≡◌, map, subst}
use Rattle.std.proofs.lemmas.Fn.{slice_gives, fronts}
use Rattle.rows.specs.Rows.{product}
use Rattle.rows.proofs.RowLaws.{fold_joins}
use Rattle.rows.proofs.totals.multiply_row.Goals as goal

pub returns : goal.returns
returns g c =
    let k = g.K.Kind in
    let law = g.met.K.Kind.lawful in
    subst (λ xs. k.means c.fold.result ≡ product k.ring (map k.means xs)) c.iter.ensures.rest
    (fold_joins k.means k.ring.times k.ring.one law.times_assoc law.times_comm fronts (λ x. x.now) _ _ (λ s x t f call. search rules)
    _ _ _ _ (slice_gives c.iter.result) c.one.ensures c.fold.ensures.ran)
