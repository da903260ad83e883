-- The numbers from 0 to a top, where a larger number is held at the top; counts and clearances are made of them.
use Rattle.std.specs.Prelude.{ℕ, ◌+◌, ◌*◌, ◌≤◌, min, max, Bool, ◌==◌}
use Rattle.std.proofs.Math.Nat.{min-le_right}
use Rattle.kinds.specs.Semiring.{Semiring}

abbrev pub Upto : ℕ → Type 0
Upto top = (n : ℕ) × (n ≤ top)

-- n itself, or the top where n is larger
abbrev pub held : (top n : ℕ) → Upto top
held top n = (min n top, min-le_right n top)

abbrev pub same_number : {top : ℕ} → Upto top → Upto top → Bool
same_number a b = a.0 == b.0

-- Counting: the sum and the product, held at the top.
abbrev pub counts : ℕ → Semiring
counts top = record {
  carrier = Upto top;
  zero = held top 0;
  one = held top 1;
  plus = λ a b. held top (a.0 + b.0);
  times = λ a b. held top (a.0 * b.0);
  same = same_number;
}

-- Ranking: plus is the larger, times the smaller, and one is the top.
abbrev pub ranks : ℕ → Semiring
ranks top = record {
  carrier = Upto top;
  zero = held top 0;
  one = held top top;
  plus = λ a b. held top (max a.0 b.0);
  times = λ a b. held top (min a.0 b.0);
  same = same_number;
}
