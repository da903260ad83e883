-- Monotone Boolean functions of n variables.
use Rattle.std.specs.Prelude.{ℕ, zero, suc, Bool, true, false, cond, ◌&&◌, ◌||◌, refl}
use Rattle.std.proofs.Math.Bool.{So}
use Rattle.std.specs.Bool.{beq}
use Rattle.std.proofs.lemmas.Bool.{and_parts, and_from, or_left, or_right, false≢true}

-- Which of n variables are true: the last one stands beside the others.
abbrev pub Assignment : ℕ → Type 0
Assignment zero = Unit {0}
Assignment (suc n) = Assignment n × Bool

-- what is true in a is true in b
abbrev pub Within : (n : ℕ) → Assignment n → Assignment n → Type 0
Within zero a b = Unit {0}
Within (suc n) a b = Within n a.0 b.0 × (So a.1 → So b.1)

-- more true variables never make f false
abbrev pub Rises : (n : ℕ) → (Assignment n → Bool) → Type 0
Rises n f = (a b : Assignment n) → Within n a b → So (f a) → So (f b)

-- A monotone function of n variables.
abbrev pub Monotone : ℕ → Type 0
Monotone n = (f : Assignment n → Bool) × Rises n f

pub or_rises : {p q r s : Bool} → (So p → So r) → (So q → So s) → So (p || q) → So (r || s)
or_rises {p = true} {r = r} {s = s} f g h = or_left r s (f h)
or_rises {p = false} {r = r} {s = s} f g h = or_right r s (g h)

pub and_rises : {p q r s : Bool} → (So p → So r) → (So q → So s) → So (p && q) → So (r && s)
and_rises {p} {q} {r} {s} f g h = and_from r s (f (and_parts p q h).0) (g (and_parts p q h).1)

-- f and g have equal values at every assignment
abbrev pub agree : (n : ℕ) → (Assignment n → Bool) → (Assignment n → Bool) → Bool
agree zero f g = beq (f tt) (g tt)
agree (suc n) f g = agree n (λ a. f (a, false)) (λ a. g (a, false)) && agree n (λ a. f (a, true)) (λ a. g (a, true))

-- the function that is never true, and the one that always is
abbrev pub never : (n : ℕ) → Monotone n
never n = (λ a. false, λ a b w h. h)

abbrev pub always : (n : ℕ) → Monotone n
always n = (λ a. true, λ a b w h. h)

-- where one of two functions is true, and where both are
abbrev pub or_of : (n : ℕ) → Monotone n → Monotone n → Monotone n
or_of n f g = (λ a. f.0 a || g.0 a, λ a b w. or_rises (f.1 a b w) (g.1 a b w))

abbrev pub and_of : (n : ℕ) → Monotone n → Monotone n → Monotone n
and_of n f g = (λ a. f.0 a && g.0 a, λ a b w. and_rises (f.1 a b w) (g.1 a b w))

-- The least function above f that rises: where the last variable is true, f may hold with it or without it.
abbrev pub raised : (n : ℕ) → (Assignment n → Bool) → Assignment n → Bool
raised zero f a = f a
raised (suc n) f a =
    cond a.1 (raised n (λ b. f (b, false)) a.0 || raised n (λ b. f (b, true)) a.0) (raised n (λ b. f (b, false)) a.0)

pub raised_rises : (n : ℕ) (f : Assignment n → Bool) → Rises n (raised n f)
raised_rises zero f a b w h = h
raised_rises (suc n) f (a, true) (b, true) w h =
    or_rises (raised_rises n (λ c. f (c, false)) a b w.0) (raised_rises n (λ c. f (c, true)) a b w.0) h
raised_rises (suc n) f (a, false) (b, true) w h = or_left _ _ (raised_rises n (λ c. f (c, false)) a b w.0 h)
raised_rises (suc n) f (a, false) (b, false) w h = raised_rises n (λ c. f (c, false)) a b w.0 h
raised_rises (suc n) f (a, true) (b, false) w h = absurd (false≢true (w.1 refl))

abbrev pub closure : (n : ℕ) → (Assignment n → Bool) → Monotone n
closure n f = (raised n f, raised_rises n f)
