-- Closing 64 bits upward: the six steps of the program, the function that bits stand for, and the bits of a function.
use Rattle.std.proofs.Common.{◌≡◌, ℕ, zero, suc, List, [], ◌∷◌, get_or, add-one, ◌+◌, ◌-◌, ◌*◌, ◌%◌, ◌^◌, ◌<◌, Bool, true, false, cond, ◌&&◌, ◌||◌, eqb, ltb, leb, Decides, sym, refl, ap, ◌∙◌, ap₂, ⊎_elim, lt_of_le_of_lt, mod-eq_of_lt, arith}
use mathlib.Core.Path.{fun_ext}
use mathlib.Core.Bool.{So}
use Rattle.std.proofs.lemmas.Bool.Decides.{same_from_decides, Decides-eqb, Decides-like}
use Rattle.std.proofs.lemmas.Bool.{agree_below, agree_below_at, leb-true, ltb-true, and_parts, cases_eq}
use lib.Bits.{bit_and, bit_or, or_lt, and_le_r}
use Rattle.truth_tables.specs.Monotone.{Assignment, Within, Monotone, raised, or_of, and_of}
use Rattle.truth_tables.specs.Tables.{bit, index, assignment, function, packed, code, Closed, Closes}
use Rattle.std.proofs.Math.Bool.{or_comm, or-false, and-true, and-false}
use Rattle.truth_tables.proofs.Bitwise.{bit_of_or, bit_of_and, bit_shl, by_bits, index_assignment, index_lt, index_low, index_top, assignment_index, packed_lt, bit_packed}
use Rattle.truth_tables.proofs.MonotoneLaws.{by_value, raised_same, raised_or, raised_above, raised_least}

-- r has exactly the bits of the function that x stands for
abbrev pub BitsOf : ℕ → ℕ → Type 0
BitsOf x r = (a : Assignment 6) → bit r (index 6 a) ≡ (function x).0 a

-- a table of all values of f
abbrev pub Table : ℕ → Type 0
Table zero = Bool
Table (suc n) = Table n × Table n

abbrev pub table : (n : ℕ) → (Assignment n → Bool) → Table n
table zero f = f tt
table (suc n) f = (table n (λ a. f (a, false)), table n (λ a. f (a, true)))

pub by_table : (n : ℕ) (f g : Assignment n → Bool) → table n f ≡ table n g → (a : Assignment n) → f a ≡ g a
by_table zero f g e tt = e
by_table (suc n) f g e (a, false) = by_table n (λ b. f (b, false)) (λ b. g (b, false)) (ap (λ t. t.0) e) a
by_table (suc n) f g e (a, true) = by_table n (λ b. f (b, true)) (λ b. g (b, true)) (ap (λ t. t.1) e) a

-- one step on bits: variable mask v, shift s
abbrev pub step : ℕ → ℕ → (ℕ → Bool) → ℕ → Bool
step v s f i = cond (bit v i) (f (i - s) || f i) (f i)

-- the tables of the six variables
abbrev pub masks : List ℕ
masks = 0xAAAAAAAAAAAAAAAA ∷ 0xCCCCCCCCCCCCCCCC ∷ 0xF0F0F0F0F0F0F0F0 ∷ 0xFF00FF00FF00FF00 ∷ 0xFFFF0000FFFF0000 ∷ 0xFFFFFFFF00000000 ∷ []

-- the first n steps
abbrev pub steps : ℕ → (ℕ → Bool) → ℕ → Bool
steps zero f = f
steps (suc n) f = step (get_or masks n 0) (2 ^ n) (steps n f)

pub steps_raise : (f : ℕ → Bool) (a : Assignment 6) → steps 6 f (index 6 a) ≡ raised 6 (λ b. f (index 6 b)) a
steps_raise f = by_table 6 (λ a. steps 6 f (index 6 a)) (raised 6 (λ b. f (index 6 b))) refl

-- x has 64 bits, and they are f
pub record Has (x : ℕ) (f : ℕ → Bool) : Type 0 where
  pub fits : x < 2 ^ 64
  pub bits : (i : ℕ) → i < 64 → bit x i ≡ f i

pick : (v p q r : Bool) → (So v → q ≡ r) → (p || (q && v)) ≡ cond v (r || p) p
pick true p q r e = ap (λ t. p || t) (and-true q ∙ e refl) ∙ or_comm p r
pick false p q r e = ap (λ t. p || t) (and-false q) ∙ or-false p

-- the variable's mask has 64 bits, and none below its shift
abbrev pub above : ℕ → ℕ → Bool
above v s = ltb v (2 ^ 64) && agree_below (λ i. bit v i && leb s i) (bit v) 64

pub has_step : (v s x : ℕ) (f : ℕ → Bool) → So (above v s) → Has x f → Has (bit_or x (bit_and ((x * 2 ^ s) % 2 ^ 64) v)) (step v s f)
has_step v s x f t h =
    let mask = and_parts (ltb v (2 ^ 64)) (agree_below (λ i. bit v i && leb s i) (bit v) 64) t in
    let shifted = (x * 2 ^ s) % 2 ^ 64 in
    record {
      fits = or_lt 64 x (bit_and shifted v) h.fits (lt_of_le_of_lt (and_le_r shifted v) (ltb-true v (2 ^ 64) mask.0));
      bits = λ i k.
          bit_of_or x (bit_and shifted v) i ∙ ap (λ p. bit x i || p) (bit_of_and shifted v i)
          ∙ pick (bit v i) (bit x i) (bit shifted i) (bit x (i - s)) (λ b. bit_shl x s i (leb-true s i (and_parts (bit v i) (leb s i) (agree_below_at (λ n. bit v n && leb s n) (bit v) 64 i mask.1 k ∙ b)).1) k)
          ∙ ap₂ (λ p q. cond (bit v i) (p || q) q) (h.bits (i - s) (omega arith)) (h.bits i k);
    }

-- each mask has 64 bits, and none below its shift, which is below 64
abbrev masked : ℕ → Bool
masked j = above (get_or masks j 0) (2 ^ j) && (ltb (2 ^ j) 64 && eqb (1 * 2 ^ j % 2 ^ 64) (2 ^ j))

all_masked : agree_below masked (λ _. true) 6 ≡ true
all_masked = refl

mask_parts : (j : ℕ) → j < 6 → So (above (get_or masks j 0) (2 ^ j)) × So (ltb (2 ^ j) 64 && eqb (1 * 2 ^ j % 2 ^ 64) (2 ^ j))
mask_parts j h = and_parts (above (get_or masks j 0) (2 ^ j)) (ltb (2 ^ j) 64 && eqb (1 * 2 ^ j % 2 ^ 64) (2 ^ j)) (agree_below_at masked (λ _. true) 6 j all_masked h)

pub shift_is : (j : ℕ) → j < 6 → 1 * 2 ^ j % 2 ^ 64 ≡ 2 ^ j
shift_is j h = (Decides-eqb (1 * 2 ^ j % 2 ^ 64) (2 ^ j)).0 (and_parts (ltb (2 ^ j) 64) (eqb (1 * 2 ^ j % 2 ^ 64) (2 ^ j)) (mask_parts j h).1).1

-- a shift by what variable j weighs is below 64
pub shift_lt : (j s : ℕ) → j < 6 → s ≡ 2 ^ j → s < 64
shift_lt j s h e = rw e (ltb-true (2 ^ j) 64 (and_parts (ltb (2 ^ j) 64) (eqb (1 * 2 ^ j % 2 ^ 64) (2 ^ j)) (mask_parts j h).1).0)

-- and makes one more step
pub one_more : (j s x : ℕ) (f : ℕ → Bool) → j < 6 → s ≡ 2 ^ j → Has x (steps j f) → Has (bit_or x (bit_and ((x * 2 ^ s) % 2 ^ 64) (get_or masks j 0))) (steps (j + 1) f)
one_more j s x f h e k = rw (add-one j, e) (has_step (get_or masks j 0) (2 ^ j) x (steps j f) (mask_parts j h).0 k)

pub function_or : (x y : ℕ) → function (bit_or x y) ≡ or_of 6 (function x) (function y)
unfolding function
function_or x y =
    by_value 6 (λ a. ap (λ f. raised 6 f a) (fun_ext (λ b. bit_of_or x y (index 6 b))) ∙ raised_or 6 (λ b. bit x (index 6 b)) (λ b. bit y (index 6 b)) a)

pub function_and : (x y r s : ℕ) → BitsOf x r → BitsOf y s → function (bit_and r s) ≡ and_of 6 (function x) (function y)
unfolding function
function_and x y r s p q =
    let both = and_of 6 (function x) (function y) in
    by_value 6 (λ a. ap (λ f. raised 6 f a) (fun_ext (λ b. bit_of_and r s (index 6 b) ∙ ap₂ ◌&&◌ (p b) (q b))) ∙ raised_same 6 both.0 both.1 a)

at_index : (i : ℕ) → i < 64 → index 6 (assignment 6 i) ≡ i
at_index i h = index_assignment 6 i ∙ mod-eq_of_lt h

pub closed_at : (x r i : ℕ) → BitsOf x r → i < 64 → bit r i ≡ (function x).0 (assignment 6 i)
closed_at x r i p h = ap (bit r) (sym (at_index i h)) ∙ p (assignment 6 i)

-- bits that agree with their function at every number below 64 agree with it at every assignment
pub values_bits : (x : ℕ) → ((i : ℕ) → i < 64 → bit x i ≡ (function x).0 (assignment 6 i)) → BitsOf x x
values_bits x p a = p (index 6 a) (index_lt 6 a) ∙ ap (function x).0 (assignment_index 6 a)

-- the code of a function has its bits, and stands for it
pub code_bits : (x r : ℕ) → r ≡ code (function x) → BitsOf x r
unfolding code
code_bits x r e a = ap (λ n. bit n (index 6 a)) e ∙ bit_packed 6 (function x).0 a

pub bits_code : (x r : ℕ) → r < 2 ^ 64 → BitsOf x r → r ≡ code (function x)
unfolding code
bits_code x r h p =
    by_bits 64 r (packed 6 (function x).0) h (packed_lt 6 (function x).0)
    (λ i k. ap (bit r) (sym (at_index i k)) ∙ p (assignment 6 i) ∙ sym (bit_packed 6 (function x).0 (assignment 6 i)) ∙ ap (bit (packed 6 (function x).0)) (at_index i k))

pub code_back : (f : Monotone 6) → function (code f) ≡ f
unfolding function code
code_back f =
    by_value 6 (λ a. ap (λ g. raised 6 g a) (fun_ext (bit_packed 6 f.0)) ∙ raised_same 6 f.0 f.1 a)

pub same_function : (f g : Monotone 6) → code f ≡ code g → f ≡ g
same_function f g e = sym (code_back f) ∙ ap function e ∙ code_back g

pub codes_exact : (x y r s : ℕ) → r ≡ code (function x) → s ≡ code (function y) → Decides (eqb r s) (function x ≡ function y)
codes_exact x y r s p q =
    Decides-like (eqb r s) (λ e. same_function (function x) (function y) (sym p ∙ e ∙ q)) (λ e. p ∙ ap code e ∙ sym q) (Decides-eqb r s)

-- a number that is some function's code is the code of what it stands for
pub code_stays : (x n : ℕ) → code (function x) ≡ n → code (function n) ≡ n
code_stays x n e = ap (λ m. code (function m)) (sym e) ∙ ap code (code_back (function x)) ∙ e

-- ones among ones, as numbers and as assignments
among_within : (n i k : ℕ) → ((j : ℕ) → j < n → So (bit i j) → So (bit k j)) → Within n (assignment n i) (assignment n k)
among_within zero i k w = tt
among_within (suc n) i k w = (among_within n i k (λ j h. w j (omega arith)), w n (omega arith))

within_among : (n : ℕ) (a b : Assignment n) → Within n a b → (j : ℕ) → j < n → So (bit (index n a) j) → So (bit (index n b) j)
within_among zero a b w j h t = absurd (omega arith)
within_among (suc n) (a, p) (b, q) w j h t =
    ⊎_elim
    (λ e. ap (λ i. bit (index (suc n) (b, q)) i) e ∙ index_top n b q ∙ w.1 (sym (index_top n a p) ∙ ap (λ i. bit (index (suc n) (a, p)) i) (sym e) ∙ t))
    (λ ne. let k : j < n = omega (arith, ne) in index_low n b q j k ∙ within_among n a b w.0 j k (sym (index_low n a p j k) ∙ t))
    (cases_eq j n)

-- what the code's bits are, in terms of bits alone
pub bits_close : (x r : ℕ) → BitsOf x r → Closes x r
unfolding function
bits_close x r p = record {
  closed = λ i k hi hk w t. closed_at x r k p hk ∙ (function x).1 (assignment 6 i) (assignment 6 k) (among_within 6 i k w) (sym (closed_at x r i p hi) ∙ t);
  covers = λ i h t. closed_at x r i p h ∙ raised_above 6 (λ a. bit x (index 6 a)) (assignment 6 i) (ap (bit x) (at_index i h) ∙ t);
  least = λ y c v i h t.
      sym (ap (bit y) (at_index i h))
      ∙ raised_least 6 (λ a. bit x (index 6 a)) (λ a. bit y (index 6 a)) (λ a b w. c (index 6 a) (index 6 b) (index_lt 6 a) (index_lt 6 b) (within_among 6 a b w)) (λ a. v (index 6 a) (index_lt 6 a)) (assignment 6 i) (sym (closed_at x r i p h) ∙ t);
}

-- closing bits that are closed changes nothing
pub closed_stays : (x r : ℕ) → x < 2 ^ 64 → r < 2 ^ 64 → Closes x r → Closed x → r ≡ x
closed_stays x r hx hr c k =
    by_bits 64 r x hr hx (λ i h. same_from_decides (bit r i) (bit x i) (c.least x k (λ _ _ t. t) i h, c.covers i h) (λ t. t, λ t. t))
