-- The six variables: two tests, of bits and of values, each at 6 × 64 places, which the checker computes.
use Rattle.std.proofs.Common.{◌≡◌, ℕ, ◌<◌, Bool, true, get_or, sym, refl, ◌∙◌}
use Rattle.std.proofs.lemmas.Bool.{agree_below, agree_below_at}
use Rattle.truth_tables.specs.Tables.{bit, assignment, function, Variable}
use Rattle.truth_tables.proofs.Closing.{masks, bits_close, values_bits}

-- the table of variable j has its bits, and stands for a function with its values
abbrev same_bits : ℕ → Bool
same_bits j = agree_below (bit (get_or masks j 0)) (λ i. bit i j) 64

abbrev same_values : ℕ → Bool
same_values j = agree_below (λ i. (function (get_or masks j 0)).0 (assignment 6 i)) (λ i. bit i j) 64

all_bits : agree_below same_bits (λ _. true) 6 ≡ true
all_bits = refl

all_values : agree_below same_values (λ _. true) 6 ≡ true
unfolding function
all_values = refl

pub variable_at : (j : ℕ) → j < 6 → Variable j (get_or masks j 0)
variable_at j h =
    let mask = get_or masks j 0 in
    let bits : (i : ℕ) → i < 64 → bit mask i ≡ bit i j = λ i. agree_below_at (bit mask) (λ i. bit i j) 64 i (agree_below_at same_bits (λ _. true) 6 j all_bits h) in
    let values : (i : ℕ) → i < 64 → (function mask).0 (assignment 6 i) ≡ bit i j = λ i. agree_below_at (λ i. (function mask).0 (assignment 6 i)) (λ i. bit i j) 64 i (agree_below_at same_values (λ _. true) 6 j all_values h) in
    record { range = h; closed = (bits_close mask mask (values_bits mask (λ i k. bits i k ∙ sym (values i k)))).closed; value = bits; holds = values }
