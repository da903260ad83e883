-- The bits of a number, one by one; the numbers of assignments; truth tables as numbers.
use Rattle.std.proofs.Common.{◌≡◌, ℕ, zero, suc, ◌+◌, ◌-◌, ◌*◌, ◌/◌, ◌%◌, ◌^◌, ◌<◌, ◌≤◌, min, max, Bool, true, false, cond, ◌&&◌, ◌||◌, eqb, sym, refl, ap, ◌∙◌, ap₂, add-zero, mul-le-mul_right, add-mul, add_comm, one-mul, pow-suc, pow_pos, div-add-mod', zero-add, zero-mul, mul-one, mul-add, one-add, arith, pow-add}
use native.Mathlib.Nat.{mod-one}
use Rattle.std.proofs.Math.Nat.{add-sub_cancel_left}
use lib.Bits.{bit_and, bit_or}
use lib.Pow.{mod-pow-add}
use Rattle.std.specs.Int.{bit_at}
use Rattle.std.proofs.lemmas.Bool.Decides.{nat_tests}
use Rattle.std.proofs.lemmas.Nat.Bits.{bit_at_or, bit_at_and, bit_at-lt, bit_at_cat_low, bit_at_cat_high, same_from_bits_below}
use Rattle.truth_tables.specs.Monotone.{Assignment}
use Rattle.truth_tables.specs.Tables.{bit, index, assignment, packed}

-- a digit below 2, as a test
digit_or : (p q : ℕ) → p < 2 → q < 2 → eqb (max p q) 1 ≡ (eqb p 1 || eqb q 1)
digit_or p q hp hq = grind (arith, nat_tests)

digit_and : (p q : ℕ) → p < 2 → q < 2 → eqb (min p q) 1 ≡ (eqb p 1 && eqb q 1)
digit_and p q hp hq = grind (arith, nat_tests)

digit_same : (p q : ℕ) → p < 2 → q < 2 → eqb p 1 ≡ eqb q 1 → p ≡ q
digit_same p q hp hq e = grind (arith, nat_tests)

digit_times : (d m : ℕ) → d < 2 → cond (eqb d 1) m 0 ≡ d * m
digit_times zero m h = sym (zero-mul m)
digit_times (suc zero) m h = sym (one-mul m)
digit_times (suc (suc d)) m h = absurd (omega arith)

pub bit_of_or : (x y i : ℕ) → bit (bit_or x y) i ≡ (bit x i || bit y i)
bit_of_or x y i = ap (λ n. eqb n 1) (bit_at_or x y i) ∙ digit_or (bit_at x i) (bit_at y i) (bit_at-lt x i) (bit_at-lt y i)

pub bit_of_and : (x y i : ℕ) → bit (bit_and x y) i ≡ (bit x i && bit y i)
bit_of_and x y i = ap (λ n. eqb n 1) (bit_at_and x y i) ∙ digit_and (bit_at x i) (bit_at y i) (bit_at-lt x i) (bit_at-lt y i)

-- the bits of a number in two parts: hi above bit m, lo below it
pub bit_low : (hi lo m i : ℕ) → i < m → bit (hi * 2 ^ m + lo) i ≡ bit lo i
bit_low hi lo m i h = ap (λ n. eqb n 1) (bit_at_cat_low hi m lo i h)

pub bit_high : (hi lo m i : ℕ) → lo < 2 ^ m → bit (hi * 2 ^ m + lo) (m + i) ≡ bit hi i
bit_high hi lo m i h = ap (λ n. eqb n 1) (bit_at_cat_high hi m lo (m + i) h (omega arith)) ∙ ap (bit hi) (add-sub_cancel_left m i)

pub bit_shl : (x s i : ℕ) → s ≤ i → i < 64 → bit ((x * 2 ^ s) % 2 ^ 64) i ≡ bit x (i - s)
bit_shl x s i h k =
    let m = x * 2 ^ s in
    sym (bit_low (m / 2 ^ 64) (m % 2 ^ 64) 64 i k) ∙ ap (λ n. bit n i) (div-add-mod' m (2 ^ 64) ∙ sym (add-zero m))
    ∙ ap (λ n. eqb n 1) (bit_at_cat_high x s 0 i (pow_pos s) h)

-- two numbers of n bits with the same bits are one
pub by_bits : (n x y : ℕ) → x < 2 ^ n → y < 2 ^ n → ((i : ℕ) → i < n → bit x i ≡ bit y i) → x ≡ y
by_bits n x y hx hy same =
    same_from_bits_below n x y hx hy (λ i h. digit_same (bit_at x i) (bit_at y i) (bit_at-lt x i) (bit_at-lt y i) (same i h))

pub index_assignment : (n i : ℕ) → index n (assignment n i) ≡ i % 2 ^ n
index_assignment zero i = sym (mod-one i)
index_assignment (suc n) i =
    ap₂ ◌+◌ (index_assignment n i) (digit_times (i / 2 ^ n % 2) (2 ^ n) (bit_at-lt i n))
    ∙ add_comm (i % 2 ^ n) (i / 2 ^ n % 2 * 2 ^ n) ∙ sym (mod-pow-add i 1 n) ∙ ap (λ m. i % 2 ^ m) (one-add n)

pub index_lt : (n : ℕ) (a : Assignment n) → index n a < 2 ^ n
index_lt zero a = omega arith
index_lt (suc n) (a, true) = rw pow-suc (omega (arith, index_lt n a))
index_lt (suc n) (a, false) = rw pow-suc (omega (arith, index_lt n a))

-- the bits of an assignment's number are its variables
pub index_low : (n : ℕ) (a : Assignment n) (p : Bool) (j : ℕ) → j < n → bit (index (suc n) (a, p)) j ≡ bit (index n a) j
index_low n a true j h = ap (λ m. bit m j) (add_comm (index n a) (2 ^ n) ∙ ap (λ m. m + index n a) (sym (one-mul (2 ^ n)))) ∙ bit_low 1 (index n a) n j h
index_low n a false j h = ap (λ m. bit m j) (add-zero (index n a))

pub index_top : (n : ℕ) (a : Assignment n) (p : Bool) → bit (index (suc n) (a, p)) n ≡ p
index_top n a true =
    ap₂ bit (add_comm (index n a) (2 ^ n) ∙ ap (λ m. m + index n a) (sym (one-mul (2 ^ n)))) (sym (add-zero n)) ∙ bit_high 1 (index n a) n 0 (index_lt n a)
index_top n a false =
    ap₂ bit (add-zero (index n a) ∙ sym (zero-add (index n a)) ∙ ap (λ m. m + index n a) (sym (zero-mul (2 ^ n)))) (sym (add-zero n)) ∙ bit_high 0 (index n a) n 0 (index_lt n a)

-- an assignment is that of its number
pub assignment_index : (n : ℕ) (a : Assignment n) → assignment n (index n a) ≡ a
assignment_index n a = assigned n a (index n a) (λ j h. refl)
  where
    assigned : (n : ℕ) (a : Assignment n) (i : ℕ) → ((j : ℕ) → j < n → bit i j ≡ bit (index n a) j) → assignment n i ≡ a
    assigned zero a i e = refl
    assigned (suc n) (a, p) i e =
        ap₂ (λ b q. (b, q)) (assigned n a i (λ j h. e j (omega arith) ∙ index_low n a p j h)) (e n (omega arith) ∙ index_top n a p)

-- a truth table as a number
pub packed_lt : (n : ℕ) (f : Assignment n → Bool) → packed n f < 2 ^ (2 ^ n)
packed_lt zero f = one_bit (f tt)
  where
    one_bit : (p : Bool) → cond p 1 0 < 2
    one_bit true = omega arith
    one_bit false = omega arith
packed_lt (suc n) f = rw (pow-suc) (joined (packed n (λ a. f (a, true))) (packed n (λ a. f (a, false))) (packed_lt n (λ a. f (a, true))) (packed_lt n (λ a. f (a, false))))
  where
    joined : (hi lo : ℕ) → hi < 2 ^ (2 ^ n) → lo < 2 ^ (2 ^ n) → hi * 2 ^ (2 ^ n) + lo < 2 ^ (2 ^ n * 2)
    joined hi lo h k =
        let e : 2 ^ (2 ^ n * 2) ≡ 2 ^ (2 ^ n) * 2 ^ (2 ^ n) = ap (λ m. 2 ^ m) (mul-add (2 ^ n) 1 1 ∙ ap₂ ◌+◌ (mul-one (2 ^ n)) (mul-one (2 ^ n))) ∙ pow-add 2 (2 ^ n) (2 ^ n) in
        let p : (hi + 1) * 2 ^ (2 ^ n) ≤ 2 ^ (2 ^ n) * 2 ^ (2 ^ n) = mul-le-mul_right (2 ^ (2 ^ n)) (omega arith) in
        omega (arith, e, p, add-mul hi 1 (2 ^ (2 ^ n)), one-mul (2 ^ (2 ^ n)))

pub bit_packed : (n : ℕ) (f : Assignment n → Bool) (a : Assignment n) → bit (packed n f) (index n a) ≡ f a
bit_packed zero f tt = one_bit (f tt)
  where
    one_bit : (p : Bool) → bit (cond p 1 0) 0 ≡ p
    one_bit true = refl
    one_bit false = refl
bit_packed (suc n) f (a, true) =
    ap (bit (packed (suc n) f)) (add_comm (index n a) (2 ^ n))
    ∙ bit_high (packed n (λ b. f (b, true))) (packed n (λ b. f (b, false))) (2 ^ n) (index n a) (packed_lt n (λ b. f (b, false)))
    ∙ bit_packed n (λ b. f (b, true)) a
bit_packed (suc n) f (a, false) =
    ap (bit (packed (suc n) f)) (add-zero (index n a))
    ∙ bit_low (packed n (λ b. f (b, true))) (packed n (λ b. f (b, false))) (2 ^ n) (index n a) (index_lt n a)
    ∙ bit_packed n (λ b. f (b, false)) a
