-- What an annotation kind is: a commutative semiring whose annotations can be told apart.
-- The operations are one record, so that definitions compute on examples; the laws are another.
use Rattle.std.specs.Prelude.{◌≡◌, Bool, Decides}

-- The annotations of a kind, with their zero, one, plus, times and the test whether two are the same.
pub record Semiring : Type 1 where
  pub carrier : Type 0
  pub zero : carrier
  pub one : carrier
  pub plus : carrier → carrier → carrier
  pub times : carrier → carrier → carrier
  pub same : carrier → carrier → Bool

-- What makes a kind lawful, for every annotation that can exist. Zero and one may be equal.
pub record Lawful (R : Semiring) : Type 0 where
  pub plus_assoc : (a b c : R.carrier) → R.plus (R.plus a b) c ≡ R.plus a (R.plus b c)
  pub plus_comm : (a b : R.carrier) → R.plus a b ≡ R.plus b a
  pub plus_zero : (a : R.carrier) → R.plus a R.zero ≡ a
  pub times_assoc : (a b c : R.carrier) → R.times (R.times a b) c ≡ R.times a (R.times b c)
  pub times_comm : (a b : R.carrier) → R.times a b ≡ R.times b a
  pub times_one : (a : R.carrier) → R.times a R.one ≡ a
  pub times_zero : (a : R.carrier) → R.times a R.zero ≡ R.zero
  pub times_plus : (a b c : R.carrier) → R.times a (R.plus b c) ≡ R.plus (R.times a b) (R.times a c)
  -- sameness answers yes exactly when its two annotations are equal
  pub same_exact : (a b : R.carrier) → Decides (R.same a b) (a ≡ b)
