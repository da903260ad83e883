-- Small laws of readings.
use Rattle.std.proofs.Common.{◌≡◌, ℕ, Bool, true, false, Ok, Err, refl, arith}
use Rattle.formats.specs.declared.refusals.Refusal.{Refusal}
use Rattle.formats.specs.Reading.{Reading, refuse_if, ◌then◌}

-- What passes a test that would refuse it.
pub passed : {X : Type 0} (b : Bool) (r : Refusal) (at : ℕ) (x : Reading X) (y : X) → refuse_if b r at x ≡ Ok y → (b ≡ false) × (x ≡ Ok y)
passed true r at x y e = let z : ◌≡◌ {A = ℕ} 0 1 = cc in absurd (omega arith)
passed false r at x y e = (refl, e)

-- What is good of two readings, one after the other.
pub then_ok : {X Y : Type 0} (x : Reading X) (k : X → Reading Y) (y : Y) → (x then k) ≡ Ok y → (z : X) × (x ≡ Ok z) × (k z ≡ Ok y)
then_ok (Ok z) k y e = (z, refl, e)
then_ok (Err f) k y e = let w : ◌≡◌ {A = ℕ} 0 1 = cc in absurd (omega arith)
