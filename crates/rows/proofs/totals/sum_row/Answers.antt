use Rattle.std.proofs.Common.{rules, ◌≡◌, map, subst}
use Rattle.std.proofs.lemmas.Fn.{slice_gives, fronts}
use Rattle.rows.specs.Rows.{total}
use Rattle.rows.proofs.RowLaws.{fold_joins}
use Rattle.rows.proofs.totals.sum_row.Goals as goal

pub returns : goal.returns
returns g c =
    let k = g.K.Kind in
    let law = g.met.K.Kind.lawful in
    subst (λ xs. k.means c.fold.result ≡ total k.ring (map k.means xs)) c.iter.ensures.rest
    (fold_joins k.means k.ring.plus k.ring.zero law.plus_assoc law.plus_comm fronts (λ x. x.now) _ _ (λ s x t f call. search rules)
    _ _ _ _ (slice_gives c.iter.result) c.zero.ensures c.fold.ensures.ran)
