-- A pair of lawful kinds is lawful.
use Rattle.std.proofs.Common.{ap}
use Rattle.std.proofs.lemmas.Bool.Decides.{Decides-and, Decides-like}
use Rattle.kinds.specs.Semiring.{Semiring, Lawful}
use Rattle.kinds.specs.Pairs.{pairs}

pub pairs_lawful : {R S : Semiring} → Lawful R → Lawful S → Lawful (pairs R S)
pairs_lawful l r = record {
  plus_assoc = λ a b c i. (l.plus_assoc a.0 b.0 c.0 i, r.plus_assoc a.1 b.1 c.1 i);
  plus_comm = λ a b i. (l.plus_comm a.0 b.0 i, r.plus_comm a.1 b.1 i);
  plus_zero = λ a i. (l.plus_zero a.0 i, r.plus_zero a.1 i);
  times_assoc = λ a b c i. (l.times_assoc a.0 b.0 c.0 i, r.times_assoc a.1 b.1 c.1 i);
  times_comm = λ a b i. (l.times_comm a.0 b.0 i, r.times_comm a.1 b.1 i);
  times_one = λ a i. (l.times_one a.0 i, r.times_one a.1 i);
  times_zero = λ a i. (l.times_zero a.0 i, r.times_zero a.1 i);
  times_plus = λ a b c i. (l.times_plus a.0 b.0 c.0 i, r.times_plus a.1 b.1 c.1 i);
  same_exact = λ a b. Decides-like _ (λ p i. (p.0 i, p.1 i)) (λ e. (ap (λ p. p.0) e, ap (λ p. p.1) e)) (Decides-and _ _ (l.same_exact a.0 b.0) (r.same_exact a.1 b.1));
}
