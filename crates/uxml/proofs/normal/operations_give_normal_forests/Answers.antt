use Rattle.uxml.proofs.Total.{keep_union, keep_scale, keep_sum, keep_only}
use Rattle.uxml.proofs.Laws.{keep_single, keep_below}
use Rattle.uxml.proofs.normal.operations_give_normal_forests.Goals as goal

pub returns : goal.returns
returns g c =
    let k = g.met.K.Kind.lawful in
    record {
      unions = λ f h m n. keep_union k m n;
      multiples = λ a f n. keep_scale k a n;
      sums = keep_sum k;
      singles = keep_single k;
      descendants = keep_below k;
      labelled = λ l f n. keep_only k l n;
    }
