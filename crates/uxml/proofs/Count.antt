-- A list without repetition whose members all come from another list has no greater sum.
use Rattle.std.proofs.Common.{◌≡◌, ℕ, ◌+◌, ◌≤◌, ◌⊎◌, List, [], ◌∷◌, sym, refl, ap, ◌∙◌, subst, inl, inr, arith}
use mathlib.Core.List.Memᴰ.{head as first}
use mathlib.Core.List.Memᴰ.{tail as later}
use mathlib.Core.List.{Memᴰ as On}
use Rattle.uxml.specs.Evaluation.{sum_of}

module _ {Y : Type 0} where
  abbrev rest : {y : Y} {ys : List Y} → On y ys → List Y
  rest (first {xs} e) = xs
  rest (later {x} i) = x ∷ rest i

  sum_rest : (n : Y → ℕ) {y : Y} {ys : List Y} (i : On y ys) → sum_of n ys ≡ n y + sum_of n (rest i)
  sum_rest n (first {xs} e) = ap (λ x. n x + sum_of n xs) (sym e)
  sum_rest n {y} (later {x} {xs} i) = let h = sum_rest n i in omega arith

  other : {y z : Y} {ys : List Y} (i : On y ys) → On z ys → (z ≡ y) ⊎ On z (rest i)
  other (first e) (first d) = inl (d ∙ sym e)
  other (first e) (later j) = inr j
  other (later i) (first d) = inr (first d)
  other (later i) (later j) = elim (other i j) [ inl e ↦ inl e | inr k ↦ inr (later k) ]

module _ {X Y : Type 0} (R : X → Y → Type 0) where
  -- no two members of a list come from one
  abbrev pub Apart : List X → Type 0
  Apart [] = Unit {0}
  Apart (x ∷ xs) = ((z : X) → On z xs → (y : Y) → R x y → R z y → ⊥) × Apart xs

  pub fewer : (m : X → ℕ) (n : Y → ℕ) → ((x : X) (y : Y) → R x y → m x ≤ n y) → (xs : List X) (ys : List Y) → Apart xs
      → ((x : X) → On x xs → (y : Y) × On y ys × R x y) → sum_of m xs ≤ sum_of n ys
  fewer m n le [] ys a p = omega arith
  fewer m n le (x ∷ xs) ys a p =
      let q = p x (first refl) in
      let h = fewer m n le xs (rest q.1) a.1 (λ z j. let w = p z (later j) in
      elim (other q.1 w.1) [ inl e ↦ absurd (a.0 z j q.0 q.2 (subst (R z) e w.2)) | inr k ↦ (w.0, k, w.2) ]) in
      omega (arith, h, le x q.0 q.2, sum_rest n q.1)
