-- Conditions are lawful: each law holds value by value.
use Rattle.std.specs.Prelude.{ℕ}
use Rattle.std.proofs.Math.Bool.{or_assoc, or_comm, or-false, and_assoc, and_comm, and-true, and-false, and-or_distrib_left}
use Rattle.truth_tables.proofs.MonotoneLaws.{by_value, monotone_exact}
use Rattle.kinds.specs.Semiring.{Lawful}
use Rattle.kinds.specs.Conditions.{conditions}

pub conditions_lawful : (n : ℕ) → Lawful (conditions n)
conditions_lawful n = record {
  plus_assoc = λ f g h. by_value n (λ a. or_assoc (f.0 a) (g.0 a) (h.0 a));
  plus_comm = λ f g. by_value n (λ a. or_comm (f.0 a) (g.0 a));
  plus_zero = λ f. by_value n (λ a. or-false (f.0 a));
  times_assoc = λ f g h. by_value n (λ a. and_assoc (f.0 a) (g.0 a) (h.0 a));
  times_comm = λ f g. by_value n (λ a. and_comm (f.0 a) (g.0 a));
  times_one = λ f. by_value n (λ a. and-true (f.0 a));
  times_zero = λ f. by_value n (λ a. and-false (f.0 a));
  times_plus = λ f g h. by_value n (λ a. and-or_distrib_left (f.0 a) (g.0 a) (h.0 a));
  same_exact = λ f g. monotone_exact n f g;
}
