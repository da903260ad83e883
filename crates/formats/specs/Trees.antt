-- Annotated trees and forests.
use Rattle.std.specs.Prelude.{ℕ, List, [], ◌∷◌}

-- A tree is a label over a child forest. A forest lists trees with their annotations, in an order that means nothing.
mutual
  pub data Tree (A : Type 0) : Type 0 where
    tree : ℕ → Forest A → Tree A

  pub data Forest (A : Type 0) : Type 0 where
    empty : Forest A
    entry : Tree A → A → Forest A → Forest A

abbrev pub label : {A : Type 0} → Tree A → ℕ
label (tree l f) = l

abbrev pub children : {A : Type 0} → Tree A → Forest A
children (tree l f) = f

-- the trees that a forest lists, without their annotations
abbrev pub trees : {A : Type 0} → Forest A → List (Tree A)
trees empty = []
trees (entry t a f) = t ∷ trees f

-- the entries of f and then those of g
abbrev pub beside : {A : Type 0} → Forest A → Forest A → Forest A
beside empty g = g
beside (entry t a f) g = entry t a (beside f g)

-- the tree t is listed in a forest with the annotation a
pub data In {A : Type 0} (t : Tree A) (a : A) : Forest A → Type 0 where
  here : {f : Forest A} → In t a (entry t a f)
  there : {u : Tree A} {b : A} {f : Forest A} → In t a f → In t a (entry u b f)

-- Each annotation replaced, nothing merged.
abbrev mutual
  pub relabel_tree : {A B : Type 0} → (A → B) → Tree A → Tree B
  relabel_tree h (tree l f) = tree l (relabel h f)

  pub relabel : {A B : Type 0} → (A → B) → Forest A → Forest B
  relabel h empty = empty
  relabel h (entry t a f) = entry (relabel_tree h t) (h a) (relabel h f)
