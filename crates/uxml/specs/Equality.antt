-- Equal scopes and equal answers: the order in which forests are listed means nothing.
use Rattle.std.specs.Prelude.{◌≡◌, true, List, [], ◌∷◌}
use Rattle.kinds.specs.Semiring.{Semiring}
use Rattle.uxml.specs.Forests.{TreeOf, ForestOf, same_tree, Equal, known}
use Rattle.uxml.specs.Normal.{Normal, NormalTree}
use Rattle.uxml.specs.Evaluation.{Bound, a_tree, a_forest, Scope, Answer}

-- Two lists of one length, related place by place.
pub data Pairwise {X Y : Type 0} (R : X → Y → Type 0) : List X → List Y → Type 0 where
  done : Pairwise R [] []
  next : {x : X} {y : Y} {xs : List X} {ys : List Y} → R x y → Pairwise R xs ys → Pairwise R (x ∷ xs) (y ∷ ys)

-- what holds of every element of a list
pub data Each {X : Type 0} (P : X → Type 0) : List X → Type 0 where
  no_more : Each P []
  and_each : {x : X} {xs : List X} → P x → Each P xs → Each P (x ∷ xs)

module _ (K : Semiring) where
  -- `same_tree` passes: a type of its own, from which t and u can be read off
  pub record Same (t u : TreeOf K) : Type 0 where
    pub is : same_tree K t u ≡ true

  pub data NormalBound : Bound K.carrier → Type 0 where
    of_tree : {t : TreeOf K} → NormalTree K t → NormalBound (a_tree t)
    of_forest : {f : ForestOf K} → Normal K f → NormalBound (a_forest f)

  -- all documents and variables of a scope are normal
  pub record NormalScope (s : Scope K.carrier) : Type 0 where
    pub slots : Each (Normal K) s.slots
    pub bound : Each NormalBound s.bound

  pub data EqualBound : Bound K.carrier → Bound K.carrier → Type 0 where
    same_trees : {t u : TreeOf K} → Same t u → EqualBound (a_tree t) (a_tree u)
    equal_forests : {f g : ForestOf K} → Equal K f g → EqualBound (a_forest f) (a_forest g)

  -- Equal documents in each slot, the same items, and variables for equal trees and forests.
  pub record EqualScopes (s u : Scope K.carrier) : Type 0 where
    pub slots : Pairwise (Equal K) s.slots u.slots
    pub items : s.items ≡ u.items
    pub bound : Pairwise EqualBound s.bound u.bound

  -- Equal forests, the same steps, and the same set of trees built.
  pub record EqualAnswers (x y : Answer K.carrier) : Type 0 where
    pub forest : Equal K x.forest y.forest
    pub steps : x.steps ≡ y.steps
    pub built : (t : TreeOf K) → known K t x.built ≡ known K t y.built
