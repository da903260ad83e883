-- Monotone functions by their values, and the least one above a function.
use Rattle.std.proofs.Common.{◌≡◌, ℕ, zero, suc, Bool, true, false, ◌||◌, Decides, sym, refl, ◌∙◌, ap₂, ⊎_elim}
use mathlib.Core.HLevel.{Σ_prop_path}
use mathlib.Core.Bool.{So, So-prop}
use Rattle.std.proofs.lemmas.Bool.Decides.{Decides-and, Decides-like}
use Rattle.std.proofs.lemmas.Bool.{or_right, or_cases}
use Rattle.truth_tables.specs.Monotone.{Assignment, Within, Rises, Monotone, agree, raised}
use Rattle.std.specs.Cmp.{booleans_Decides}

pub by_value : (n : ℕ) {f g : Monotone n} → ((a : Assignment n) → f.0 a ≡ g.0 a) → f ≡ g
by_value n e = Σ_prop_path (λ f r s i a b w h. So-prop (f b) (r a b w h) (s a b w h) i) (λ i a. e a i)

-- the test of two functions tells whether they have equal values everywhere
pub agree_exact : (n : ℕ) (f g : Assignment n → Bool) → Decides (agree n f g) ((a : Assignment n) → f a ≡ g a)
agree_exact zero f g = Decides-like (agree zero f g) here (λ e. e tt) (booleans_Decides (f tt) (g tt))
  where
    here : f tt ≡ g tt → (a : Unit {0}) → f a ≡ g a
    here e a = e
agree_exact (suc n) f g =
    Decides-like (agree (suc n) f g) join (λ e. (λ a. e (a, false), λ a. e (a, true)))
    (Decides-and _ _ (agree_exact n (λ a. f (a, false)) (λ a. g (a, false))) (agree_exact n (λ a. f (a, true)) (λ a. g (a, true))))
  where
    join : ((a : Assignment n) → f (a, false) ≡ g (a, false)) × ((a : Assignment n) → f (a, true) ≡ g (a, true)) → (a : Assignment n × Bool) → f a ≡ g a
    join p (a, false) = p.0 a
    join p (a, true) = p.1 a

-- the test of two monotone functions tells whether they are equal
pub monotone_exact : (n : ℕ) (f g : Monotone n) → Decides (agree n f.0 g.0) (f ≡ g)
monotone_exact n f g = Decides-like (agree n f.0 g.0) (by_value n) (λ p a i. (p i).0 a) (agree_exact n f.0 g.0)

within_self : (n : ℕ) (a : Assignment n) → Within n a a
within_self zero a = tt
within_self (suc n) a = (within_self n a.0, λ h. h)

or_above : (p q : Bool) → (So p → So q) → (p || q) ≡ q
or_above true q h = sym (h refl)
or_above false q h = refl

or_swap : (p q r s : Bool) → ((p || q) || (r || s)) ≡ ((p || r) || (q || s))
or_swap true q r s = refl
or_swap false q true s = or_true q s
  where
    or_true : (q s : Bool) → (q || (true || s)) ≡ true
    or_true true s = refl
    or_true false s = refl
or_swap false q false s = refl

-- raising what rises changes nothing
pub raised_same : (n : ℕ) (f : Assignment n → Bool) → Rises n f → (a : Assignment n) → raised n f a ≡ f a
raised_same zero f r a = refl
raised_same (suc n) f r (a, false) = raised_same n (λ b. f (b, false)) (λ b c w. r (b, false) (c, false) (w, λ h. h)) a
raised_same (suc n) f r (a, true) =
    ap₂ ◌||◌ (raised_same n (λ b. f (b, false)) (λ b c w. r (b, false) (c, false) (w, λ h. h)) a) (raised_same n (λ b. f (b, true)) (λ b c w. r (b, true) (c, true) (w, λ h. h)) a)
    ∙ or_above (f (a, false)) (f (a, true)) (r (a, false) (a, true) (within_self n a, λ h. refl))

-- raising keeps or
pub raised_or : (n : ℕ) (f g : Assignment n → Bool) (a : Assignment n) → raised n (λ b. f b || g b) a ≡ (raised n f a || raised n g a)
raised_or zero f g a = refl
raised_or (suc n) f g (a, false) = raised_or n (λ b. f (b, false)) (λ b. g (b, false)) a
raised_or (suc n) f g (a, true) =
    ap₂ ◌||◌ (raised_or n (λ b. f (b, false)) (λ b. g (b, false)) a) (raised_or n (λ b. f (b, true)) (λ b. g (b, true)) a)
    ∙ or_swap (raised n (λ b. f (b, false)) a) (raised n (λ b. g (b, false)) a) (raised n (λ b. f (b, true)) a) (raised n (λ b. g (b, true)) a)

-- the raised function is above f, and below every other that rises and is above f
pub raised_above : (n : ℕ) (f : Assignment n → Bool) (a : Assignment n) → So (f a) → So (raised n f a)
raised_above zero f a t = t
raised_above (suc n) f (a, false) t = raised_above n (λ b. f (b, false)) a t
raised_above (suc n) f (a, true) t = or_right _ _ (raised_above n (λ b. f (b, true)) a t)

pub raised_least : (n : ℕ) (f h : Assignment n → Bool) → Rises n h → ((a : Assignment n) → So (f a) → So (h a)) → (a : Assignment n) → So (raised n f a) → So (h a)
raised_least zero f h r b a t = b a t
raised_least (suc n) f h r b (a, false) t =
    raised_least n (λ c. f (c, false)) (λ c. h (c, false)) (λ c d w. r (c, false) (d, false) (w, λ k. k)) (λ c. b (c, false)) a t
raised_least (suc n) f h r b (a, true) t =
    ⊎_elim
    (λ p. r (a, false) (a, true) (within_self n a, λ _. refl) (raised_least n (λ c. f (c, false)) (λ c. h (c, false)) (λ c d w. r (c, false) (d, false) (w, λ k. k)) (λ c. b (c, false)) a p))
    (raised_least n (λ c. f (c, true)) (λ c. h (c, true)) (λ c d w. r (c, true) (d, true) (w, λ k. k)) (λ c. b (c, true)) a) (or_cases _ _ t)
