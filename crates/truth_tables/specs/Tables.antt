-- Truth tables of six variables as 64 bits, and the monotone function that any 64 bits stand for.
use Rattle.std.specs.Prelude.{◌≡◌, ℕ, zero, suc, ◌+◌, ◌-◌, ◌*◌, ◌/◌, ◌%◌, ◌^◌, ◌<◌, Bool, true, false, cond, not, ◌&&◌, ◌==◌}
use Rattle.std.proofs.Math.Bool.{So}
use Rattle.truth_tables.specs.Monotone.{Assignment, Monotone, closure}

-- bit i of x, counted from the lowest
abbrev pub bit : ℕ → ℕ → Bool
bit x i = x / 2 ^ i % 2 == 1

-- the number whose bit j says whether variable j is true
abbrev pub index : (n : ℕ) → Assignment n → ℕ
index zero a = 0
index (suc n) a = index n a.0 + cond a.1 (2 ^ n) 0

-- the assignment of a number: variable j is true where its bit j is set
abbrev pub assignment : (n i : ℕ) → Assignment n
assignment zero i = tt
assignment (suc n) i = (assignment n i, bit i n)

-- The monotone function that 64 bits stand for: bit i is the value at the assignment of i, and the whole is closed upward.
unfoldable pub function : ℕ → Monotone 6
function x = closure 6 (λ a. bit x (index 6 a))

-- The truth table of f as a number: bit i is the value at the assignment of i.
abbrev pub packed : (n : ℕ) → (Assignment n → Bool) → ℕ
packed zero f = cond (f tt) 1 0
packed (suc n) f = packed n (λ a. f (a, true)) * 2 ^ (2 ^ n) + packed n (λ a. f (a, false))

-- the 64 bits of a monotone function
unfoldable pub code : Monotone 6 → ℕ
code f = packed 6 f.0

-- the ones of i, as bits of six places, are among those of k
abbrev pub Among : ℕ → ℕ → Type 0
Among i k = (j : ℕ) → j < 6 → So (bit i j) → So (bit k j)

-- Of 64 bits: whenever the ones of i are among the ones of k, bit i set means bit k set.
abbrev pub Closed : ℕ → Type 0
Closed x = (i k : ℕ) → i < 64 → k < 64 → Among i k → So (bit x i) → So (bit x k)

-- r has all the ones of x that lie below bit 64
abbrev pub Covers : ℕ → ℕ → Type 0
Covers x r = (i : ℕ) → i < 64 → So (bit x i) → So (bit r i)

-- Of all bits that are closed and have the ones of x, r has the fewest: its ones are among those of every other.
pub record Closes (x r : ℕ) : Type 0 where
  pub closed : Closed r
  pub covers : Covers x r
  pub least : (y : ℕ) → Closed y → Covers x y → Covers r y

-- x is the truth table of variable j, one of six: it is closed, bit i is set exactly where i has bit j, and the function that it stands
-- for has these values.
pub record Variable (j x : ℕ) : Type 0 where
  pub range : j < 6
  pub closed : Closed x
  pub value : (i : ℕ) → i < 64 → bit x i ≡ bit i j
  pub holds : (i : ℕ) → i < 64 → (function x).0 (assignment 6 i) ≡ bit i j

-- Variable j is true in i, and bit i of x is set without it too.
unfoldable pub set_without : ℕ → ℕ → ℕ → Bool
set_without x i j = bit i j && bit x (i - 2 ^ j)

-- Bit i of x is set, and with none of the first n variables taken away from i: such an i is a least assignment.
abbrev pub least_below : ℕ → ℕ → ℕ → Bool
least_below x i zero = bit x i
least_below x i (suc n) = least_below x i n && not (set_without x i n)

abbrev pub least_at : ℕ → ℕ → Bool
least_at x i = least_below x i 6
