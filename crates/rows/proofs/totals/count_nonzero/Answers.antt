use Rattle.std.proofs.Common.{rules, ◌≡◌, ◌^◌, map, subst}
use Rattle.std.proofs.lemmas.Fn.{slice_gives, fronts}
use Rattle.rows.specs.Rows.{nonzero}
use Rattle.rows.proofs.RowLaws.{fold_counts}
use Rattle.rows.proofs.totals.count_nonzero.Goals as goal

pub returns : goal.returns
returns g c =
    let k = g.K.Kind in
    subst (λ xs. c.fold.result ≡ nonzero k.ring (map k.means xs)) c.iter.ensures.rest
    (fold_counts k.ring k.means (2 ^ 64) fronts (λ x. x.now) _ _ (λ s x t f call. search rules) _ _ _ (search rules) (slice_gives c.iter.result) c.fold.ensures.ran)
