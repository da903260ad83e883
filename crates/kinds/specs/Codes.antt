-- Codes: the numbers by which the annotations of some kinds are written down.
use Rattle.std.specs.Prelude.{◌≡◌, ℕ, zero, suc, ◌+◌, ◌*◌, List, Option, MatchOption, ◌≢◌, slice_index}

-- The number that the first n bytes spell, the most significant byte first.
abbrev pub spelled : ℕ → List ℕ → ℕ
spelled zero bytes = 0
spelled (suc n) bytes = spelled n bytes * 256 + slice_index bytes n

-- What reading a number as a code answers, where code x is the code of the annotation that x stands for:
-- a value with that code, or none where no value has it.
abbrev pub Reads : {K : Type 0} → (K → ℕ) → ℕ → Option K → Type 0
Reads {K} code number r = MatchOption r ((x : K) → code x ≢ number) (λ v. code v ≡ number)

-- Two values have one code exactly when they stand for one annotation.
pub record OneCode {K A : Type 0} (code : K → ℕ) (means : K → A) : Type 0 where
  pub same_code : (x y : K) → means x ≡ means y → code x ≡ code y
  pub same_meaning : (x y : K) → code x ≡ code y → means x ≡ means y
