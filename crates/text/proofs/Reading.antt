-- Digits that are read from the left.
use Rattle.std.proofs.Common.{ℕ, zero, suc, ◌+◌, ◌*◌, ◌^◌, ◌<◌, List, [], ◌∷◌, length, get_or, take, arith}
use Rattle.std.specs.Str.Parse.{AllDigits, digits_value}
use Rattle.std.specs.Char.{digit_value}
use Rattle.std.proofs.lemmas.Int.Digits.{digits_value_more}
use Rattle.std.proofs.lemmas.Str.Parse.{digits_value-take-le}

digit_at : (base : ℕ) (ds : List ℕ) → AllDigits base ds → (k : ℕ) → k < length ds → digit_value (get_or ds k 0) < base
digit_at base [] h k lt = absurd (omega arith)
digit_at base (c ∷ cs) h zero lt = h.0
digit_at base (c ∷ cs) h (suc k) lt = digit_at base cs h.1 k (omega arith)

-- where the next digit cannot be taken in, the digits write no number that fits
pub no_more : (base : ℕ) (ds : List ℕ) (i : ℕ) → 0 < base → i < length ds → ((digit_value (get_or ds i 0) < base) × (digits_value base (take i ds) * base + digit_value (get_or ds i 0) < 2 ^ 64) → ⊥) → AllDigits base ds × (digits_value base ds < 2 ^ 64) → ⊥
no_more base ds i pos lt not_next h = not_next (digit_at base ds h.0 i lt, omega (arith, digits_value_more base ds i lt, digits_value-take-le base ds (i + 1) pos))
