use Rattle.std.proofs.Common.{map, ap, ◌∙◌}
use Rattle.std.proofs.lemmas.Bool.{and_from}
use Rattle.rows.specs.Rows.{total, product}
use Rattle.rows.proofs.RowLaws.{joins_both_ways}
use Rattle.rows.proofs.coarsening.coarsen.Goals as goal

pub returns-clause-sums : goal.returns-clause-sums
returns-clause-sums g c =
    let k = g.K.Kind in
    let l = g.L.Kind in
    let h = g.met.M.Map.keeps c.args.m.now in
    joins_both_ways k.means l.means (g.M.Map.image c.args.m.now) h.on k.ring.plus k.ring.zero l.ring.plus l.ring.zero h.agrees h.keeps.keeps_zero h.keeps.keeps_plus
    c.args.row.now _ _ _ _ c.in_ok-images.ensures c.sum_row.ensures (c.sum_row-2.ensures ∙ ap (λ xs. total l.ring (map l.means xs)) c.deref.ensures.value) c.new-sum.ensures

pub returns-clause-products : goal.returns-clause-products
returns-clause-products g c =
    let k = g.K.Kind in
    let l = g.L.Kind in
    let h = g.met.M.Map.keeps c.args.m.now in
    joins_both_ways k.means l.means (g.M.Map.image c.args.m.now) h.on k.ring.times k.ring.one l.ring.times l.ring.one h.agrees h.keeps.keeps_one h.keeps.keeps_times
    c.args.row.now _ _ _ _ c.in_ok-images.ensures c.multiply_row.ensures (c.multiply_row-2.ensures ∙ ap (λ xs. product l.ring (map l.means xs)) c.deref-2.ensures.value) c.new-product.ensures

pub returns-clause-agree : goal.returns-clause-agree
returns-clause-agree g c =
    let same = g.met.L.Kind.lawful.same_exact in
    and_from _ _ (c.agree.ensures ∙ (same _ _).1 (returns-clause-sums g c).agree) (c.agree-2.ensures ∙ (same _ _).1 (returns-clause-products g c).agree)
