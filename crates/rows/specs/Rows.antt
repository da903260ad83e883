-- Work on rows of plain values, place by place, in terms of the annotations that they stand for.
use Rattle.std.specs.Prelude.{◌≡◌, ℕ, ◌+◌, ◌<◌, ◌≤◌, cond, List, [], ◌∷◌, slice_index_or}
use Rattle.kinds.specs.Semiring.{Semiring}

-- Each of the first n places of the new row stands for what φ says of that place (d is any default for a place past
-- the end, where n does not reach); from place n on, the new row is the old one.
pub record Rewritten {X A : Type 0} (means : X → A) (n : ℕ) (φ : ℕ → X → A) (old new : List X) : Type 0 where
  pub placed : (i : ℕ) → i < n → (d : X) → means (slice_index_or new i d) ≡ φ i d
  pub rest : (i : ℕ) → n ≤ i → (d : X) → slice_index_or new i d ≡ slice_index_or old i d

-- the list's elements joined by op, from e at the end
abbrev pub folded : {A : Type 0} → (A → A → A) → A → List A → A
folded op e [] = e
folded op e (a ∷ more) = op a (folded op e more)

module _ (R : Semiring) where
  -- the sum of a list of annotations
  abbrev pub total : List R.carrier → R.carrier
  total = folded R.plus R.zero

  -- the product of a list of annotations
  abbrev pub product : List R.carrier → R.carrier
  product = folded R.times R.one

  -- how many annotations of a list are not zero
  abbrev pub nonzero : List R.carrier → ℕ
  nonzero [] = 0
  nonzero (a ∷ more) = cond (R.same a R.zero) (nonzero more) (1 + nonzero more)
