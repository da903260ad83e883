-- When two trees or two forests are equal, and the operations on forests.
use Rattle.std.specs.Prelude.{◌≡◌, ℕ, Bool, true, false, cond, ◌&&◌, ◌||◌, List, [], ◌∷◌, ◌==◌}
use Rattle.kinds.specs.Semiring.{Semiring}
use Rattle.formats.specs.Trees.{Tree, Forest, tree, empty, entry, label}

-- the trees and the forests of a kind
abbrev pub TreeOf : Semiring → Type 0
TreeOf K = Tree K.carrier

abbrev pub ForestOf : Semiring → Type 0
ForestOf K = Forest K.carrier

-- whether a test passes at every entry of a forest, or at some
abbrev pub every : {A : Type 0} → (Tree A → A → Bool) → Forest A → Bool
every p empty = true
every p (entry t a f) = p t a && every p f

abbrev pub some : {A : Type 0} → (Tree A → A → Bool) → Forest A → Bool
some p empty = false
some p (entry t a f) = p t a || some p f

-- the sum of what φ makes of each tree and its annotation
abbrev pub total : {A : Type 0} (K : Semiring) → (Tree A → A → K.carrier) → Forest A → K.carrier
total K φ empty = K.zero
total K φ (entry t a f) = K.plus (φ t a) (total K φ f)

module _ (K : Semiring) where
  -- Whether two trees are equal: equal labels, and the same children at the same annotations, whatever their order.
  abbrev mutual
    pub same_tree : TreeOf K → TreeOf K → Bool
    same_tree (tree l f) (tree m g) = l == m && (inside f g && every (has f) g)

    -- each entry of f stands in g
    pub inside : ForestOf K → ForestOf K → Bool
    inside empty g = true
    inside (entry t a f) g = some (λ u b. same_tree t u && K.same a b) g && inside f g

    -- u stands in f at the annotation b
    pub has : ForestOf K → TreeOf K → K.carrier → Bool
    has empty u b = false
    has (entry t a f) u b = (same_tree t u && K.same a b) || has f u b

  -- The annotation of a tree in a forest: the sum of those that the forest lists for it, so zero where it lists none.
  abbrev pub at : ForestOf K → TreeOf K → K.carrier
  at f t = total K (λ u a. cond (same_tree u t) a K.zero) f

  -- Two forests are equal when every tree has equal annotations in both.
  abbrev pub Equal : ForestOf K → ForestOf K → Type 0
  Equal f g = (t : TreeOf K) → at f t ≡ at g t

  -- the forest f with an entry more, unless its annotation is zero
  abbrev pub put : TreeOf K → K.carrier → ForestOf K → ForestOf K
  put t a f = cond (K.same a K.zero) f (entry t a f)

  -- f with a added to the annotation of t; a tree whose annotation becomes zero is gone
  abbrev pub add : TreeOf K → K.carrier → ForestOf K → ForestOf K
  add t a empty = put t a empty
  add t a (entry u b f) = cond (same_tree t u) (put u (K.plus a b) f) (entry u b (add t a f))

  abbrev pub union : ForestOf K → ForestOf K → ForestOf K
  union empty g = g
  union (entry t a f) g = add t a (union f g)

  abbrev pub scale : K.carrier → ForestOf K → ForestOf K
  scale c empty = empty
  scale c (entry t a f) = put t (K.times c a) (scale c f)

  -- the sum, over the trees t of f, of t's annotation times g t
  abbrev pub sum_over : (TreeOf K → ForestOf K) → ForestOf K → ForestOf K
  sum_over g empty = empty
  sum_over g (entry t a f) = union (scale a (g t)) (sum_over g f)

  -- one tree at annotation one
  abbrev pub single : TreeOf K → ForestOf K
  single t = put t K.one empty

  -- t at one, plus the sum over its children c of c's annotation times all that is below c, c included
  abbrev mutual
    pub below_tree : TreeOf K → ForestOf K
    below_tree (tree l f) = add (tree l f) K.one (below_each f)

    pub below_each : ForestOf K → ForestOf K
    below_each empty = empty
    below_each (entry t a f) = union (scale a (below_tree t)) (below_each f)

  -- the trees with one label
  abbrev pub only : ℕ → ForestOf K → ForestOf K
  only l empty = empty
  only l (entry t a f) = cond (label t == l) (entry t a (only l f)) (only l f)

  -- whether some tree of a list is equal to t
  abbrev pub known : TreeOf K → List (TreeOf K) → Bool
  known t [] = false
  known t (u ∷ ts) = same_tree t u || known t ts
