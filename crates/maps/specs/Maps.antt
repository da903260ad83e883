-- What it is to map one kind to another.
use Rattle.std.specs.Prelude.{◌≡◌}
use Rattle.kinds.specs.Semiring.{Semiring}

-- f keeps zero, one, plus and times.
pub record Homomorphism (R S : Semiring) (f : R.carrier → S.carrier) : Type 0 where
  pub keeps_zero : f R.zero ≡ S.zero
  pub keeps_one : f R.one ≡ S.one
  pub keeps_plus : (a b : R.carrier) → f (R.plus a b) ≡ S.plus (f a) (f b)
  pub keeps_times : (a b : R.carrier) → f (R.times a b) ≡ S.times (f a) (f b)

-- The function image on plain values gives each annotation one image: there is a homomorphism, on, such that
-- the image of a value stands for what on makes of the annotation that the value stands for.
pub record Mapping {K L : Type 0} (R S : Semiring) (from : K → R.carrier) (to : L → S.carrier) (image : K → L) : Type 0 where
  pub on : R.carrier → S.carrier
  pub keeps : Homomorphism R S on
  pub agrees : (x : K) → to (image x) ≡ on (from x)
