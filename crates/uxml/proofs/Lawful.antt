-- What a lawful kind gives, in the forms that the other proofs use.
use Rattle.std.proofs.Common.{◌≡◌, Bool, true, false, cond, ◌≢◌, sym, refl, ap, ◌∙◌, true≢false}
use mathlib.Core.Bool.{false≢true}
use Rattle.kinds.specs.Semiring.{Semiring, Lawful}

-- cases on a test, with its equation
pub by_test : {P : Type 0} (b : Bool) → (b ≡ true → P) → (b ≡ false → P) → P
by_test true p q = p refl
by_test false p q = q refl

pub clash : {P : Type 0} {b : Bool} → b ≡ true → b ≡ false → P
clash d e = absurd (true≢false (sym d ∙ e))

-- two tests that follow from one another
pub same_test : (a b : Bool) → (a ≡ true → b ≡ true) → (b ≡ true → a ≡ true) → a ≡ b
same_test true b p q = sym (p refl)
same_test false true p q = q refl
same_test false false p q = refl

pub cond_same : {A : Type 0} (b : Bool) {x : A} → cond b x x ≡ x
cond_same true = refl
cond_same false = refl

module _ {K : Semiring} (K✓ : Lawful K) where
  pub sound : (a b : K.carrier) → K.same a b ≡ true → a ≡ b
  sound a b = (K✓.same_exact a b).0

  pub itself : (a : K.carrier) → K.same a a ≡ true
  itself a = (K✓.same_exact a a).1 refl

  pub nonzero : (a : K.carrier) → K.same a K.zero ≡ false → a ≢ K.zero
  nonzero a e p = false≢true (sym e ∙ (ap (λ x. K.same x K.zero) p ∙ itself _))

  pub zero_plus : (a : K.carrier) → K.plus K.zero a ≡ a
  zero_plus a = K✓.plus_comm K.zero a ∙ K✓.plus_zero a

  pub plus_left : (a b c : K.carrier) → K.plus a (K.plus b c) ≡ K.plus b (K.plus a c)
  plus_left a b c = sym (K✓.plus_assoc a b c) ∙ ap (λ x. K.plus x c) (K✓.plus_comm a b) ∙ K✓.plus_assoc b a c

  pub zero_times : (a : K.carrier) → K.times K.zero a ≡ K.zero
  zero_times a = K✓.times_comm K.zero a ∙ K✓.times_zero a

  pub plus_times : (a b c : K.carrier) → K.times (K.plus a b) c ≡ K.plus (K.times a c) (K.times b c)
  plus_times a b c = simp (K✓.times_comm, K✓.times_plus)
