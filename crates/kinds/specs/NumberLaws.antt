-- The laws of the numbers up to a top: counts and ranks.
use Rattle.std.specs.Prelude.{◌≡◌, ℕ, zero, suc, ◌+◌, ◌*◌, ◌≤◌, min, max, Decides}
use Rattle.std.proofs.Common.{sym, ap, ◌∙◌, mul_assoc, mul_comm, mul-one, mul-zero, add-mul, mul-le-mul_left, mul-le-mul_right, le_trans}
use Rattle.std.proofs.Math.Path.{fst_path}
use mathlib.Core.HLevel.{Σ_prop_path}
use Rattle.std.proofs.Math.Bridge.{le_prop}
use Rattle.std.proofs.Math.Nat.{min-eq_left, zero-min, min-le_left, max-le}
use native.Mathlib.Omega.{arith, min_cases}
use Rattle.kinds.specs.Semiring.{Lawful}
use Rattle.kinds.specs.Upto.{Upto, held, ranks, counts, same_number}
use Rattle.std.proofs.lemmas.Bool.Decides.{Decides-eqb, Decides-like}

pub by_number : {top : ℕ} {a b : Upto top} → a.0 ≡ b.0 → a ≡ b
by_number = Σ_prop_path (λ n. le_prop)

-- numbers that are one when held at the top stand for one count
pub held_same : (top m n : ℕ) → min m top ≡ min n top → held top m ≡ held top n
held_same top m n e = by_number e

pub numbers_exact : {top : ℕ} (a b : Upto top) → Decides (same_number a b) (a ≡ b)
numbers_exact a b = Decides-like (same_number a b) by_number fst_path (Decides-eqb a.0 b.0)

ranked_max : {top : ℕ} (a b : Upto top) → min (max a.0 b.0) top ≡ max a.0 b.0
ranked_max a b = min-eq_left (max-le a.1 b.1)

ranked_min : {top : ℕ} (a b : Upto top) → min (min a.0 b.0) top ≡ min a.0 b.0
ranked_min a b = min-eq_left (le_trans (min-le_left a.0 b.0) a.1)

pub ranks_lawful : (top : ℕ) → Lawful (ranks top)
ranks_lawful top = record {
  plus_assoc = λ a b c. by_number (rw (ranked_max a b, ranked_max b c) (omega arith));
  plus_comm = λ a b. by_number (omega arith);
  plus_zero = λ a. by_number (omega arith);
  times_assoc = λ a b c. by_number (rw (ranked_min a b, ranked_min b c) (omega arith));
  times_comm = λ a b. by_number (omega arith);
  times_one = λ a. by_number (omega arith);
  times_zero = λ a. by_number (omega arith);
  times_plus = λ a b c. by_number (rw (ranked_max b c, ranked_min a b, ranked_min a c) (omega arith));
  same_exact = numbers_exact;
}

-- a product held at the top needs its factors only up to the top
held_product : (top a b : ℕ) → min (min a top * b) top ≡ min (a * b) top
held_product top a zero = rw (mul-zero, mul-zero)
held_product top a (suc b) =
    min_cases a top _
    (λ below e. rw e)
    (λ above e. let p : top * 1 ≤ top * suc b = mul-le-mul_left top (omega arith) in let q : top * suc b ≤ a * suc b = mul-le-mul_right (suc b) above in rw e (omega (arith, mul-one top)))

pub counts_lawful : (top : ℕ) → 1 ≤ top → Lawful (counts top)
counts_lawful top h = record {
  plus_assoc = λ a b c. by_number (omega arith);
  plus_comm = λ a b. by_number (omega arith);
  plus_zero = λ a. by_number (omega arith);
  times_assoc = λ a b c. by_number (held_product top (a.0 * b.0) c.0 ∙ ap (λ n. min n top) (mul_assoc a.0 b.0 c.0 ∙ mul_comm a.0 (b.0 * c.0)) ∙ sym (held_product top (b.0 * c.0) a.0) ∙ ap (λ n. min n top) (mul_comm (min (b.0 * c.0) top) a.0));
  times_comm = λ a b. by_number (rw (mul_comm a.0 b.0));
  times_one = λ a. by_number (ap (λ n. min (a.0 * n) top) (min-eq_left h) ∙ ap (λ n. min n top) (mul-one a.0) ∙ min-eq_left a.1);
  times_zero = λ a. by_number (ap (λ n. min (a.0 * n) top) (zero-min top) ∙ ap (λ n. min n top) (mul-zero a.0));
  times_plus = λ a b c. by_number (rw (mul_comm a.0 (min (b.0 + c.0) top), held_product top (b.0 + c.0) a.0, add-mul b.0 c.0 a.0, mul_comm b.0 a.0, mul_comm c.0 a.0) (omega arith));
  same_exact = numbers_exact;
}
