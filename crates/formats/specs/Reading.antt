-- What reading gives: something good, or a refusal with its place. Whatever else can be refused is told in the same words.
use Rattle.std.specs.Prelude.{ℕ, ◌+◌, ◌*◌, Bool, cond, List, length, Ok, Err, Result, nat_lt, slice_index}
use Rattle.formats.specs.declared.refusals.Fault.{Fault}
use Rattle.formats.specs.declared.refusals.Refusal.{Refusal}
use Rattle.formats.specs.declared.refusals.Refusal.TheVariants.{BytesLeft}

abbrev pub Reading : Type 0 → Type 0
Reading X = Result X Fault

abbrev pub refuse : {X : Type 0} → Refusal → ℕ → Reading X
refuse r at = Err (record { refusal = r; place = at })

infixr 20 ◌then◌
-- The first refusal of two readings, one after the other.
abbrev pub ◌then◌ : {X Y : Type 0} → Reading X → (X → Reading Y) → Reading Y
◌then◌ (Ok x) k = k x
◌then◌ (Err f) k = Err f

-- refused where the test is true
abbrev pub refuse_if : {X : Type 0} → Bool → Refusal → ℕ → Reading X → Reading X
refuse_if b r at good = cond b (refuse r at) good

-- the byte and the two-byte number at an offset
abbrev pub byte : List ℕ → ℕ → ℕ
byte bytes at = slice_index bytes at

abbrev pub word : List ℕ → ℕ → ℕ
word bytes at = 256 * byte bytes at + byte bytes (at + 1)

-- x is good if nothing stands after its end
abbrev pub ended_at : {X : Type 0} → List ℕ → ℕ → X → Reading X
ended_at bytes end x = refuse_if (nat_lt end (length bytes)) BytesLeft end (Ok x)
