-- A homomorphism between two lawful kinds, with all that its proofs use.
use Rattle.std.proofs.Common.{◌≡◌, refl}
use Rattle.kinds.specs.Semiring.{Semiring, Lawful}
use Rattle.maps.specs.Maps.{Homomorphism}

pub record Hom (K L : Semiring) (h : K.carrier → L.carrier) : Type 0 where
  pub K✓ : Lawful K
  pub L✓ : Lawful L
  pub zero : h K.zero ≡ L.zero
  pub one : h K.one ≡ L.one
  pub plus : (a b : K.carrier) → h (K.plus a b) ≡ L.plus (h a) (h b)
  pub times : (a b : K.carrier) → h (K.times a b) ≡ L.times (h a) (h b)

-- what a map keeps, with the laws of both kinds
pub hom_from : {K L : Semiring} {h : K.carrier → L.carrier} → Lawful K → Lawful L → Homomorphism K L h → Hom K L h
hom_from K✓ L✓ e = record { K✓ = K✓; L✓ = L✓; zero = e.keeps_zero; one = e.keeps_one; plus = e.keeps_plus; times = e.keeps_times }

-- the kind itself
pub hom_id : {K : Semiring} → Lawful K → Hom K K (λ a. a)
hom_id K✓ = record { K✓ = K✓; L✓ = K✓; zero = refl; one = refl; plus = λ a b. refl; times = λ a b. refl }
