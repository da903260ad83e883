-- What a query gives: a forest, the steps of its evaluation, and the trees that it builds.
use Rattle.std.specs.Prelude.{ℕ, suc, ◌+◌, true, false, List, [], ◌∷◌, ◌++◌, ◌==◌, slice_index_or}
use Rattle.kinds.specs.Semiring.{Semiring}
use Rattle.formats.specs.Trees.{Tree, Forest, tree, empty, label, children, trees}
use Rattle.formats.specs.Queries.{Query, none, document, tree_of, held, both, scaled, make, named, child, below, only_of, for_each, let_be, if_name, if_alike}
use Rattle.uxml.specs.Forests.{TreeOf, ForestOf, union, scale, sum_over, single, below_tree, only}

-- what a variable stands for
pub data Bound (A : Type 0) : Type 0 where
  a_tree : Tree A → Bound A
  a_forest : Forest A → Bound A

-- the tree or the forest of a variable; a variable of the other sort, which no checked query has, counts as empty
abbrev pub bound_tree : {A : Type 0} → Bound A → Tree A
bound_tree (a_tree t) = t
bound_tree (a_forest f) = tree 0 empty

abbrev pub bound_forest : {A : Type 0} → Bound A → Forest A
bound_forest (a_tree t) = empty
bound_forest (a_forest f) = f

-- What a query is evaluated in: the documents by slot, the list of items, and the variables, from variable 0 on.
pub record Scope (A : Type 0) : Type 0 where
  pub slots : List (Forest A)
  pub items : List A
  pub bound : List (Bound A)

-- a scope with a new variable, numbered by how many there were
abbrev pub binding : {A : Type 0} → Scope A → Bound A → Scope A
binding s b = record { slots = s.slots; items = s.items; bound = s.bound ++ (b ∷ []) }

-- what an evaluation gives
pub record Answer (A : Type 0) : Type 0 where
  pub forest : Forest A
  pub steps : ℕ
  pub built : List (Tree A)

-- the sum of n over a list, and what g gives along a list, one after the other
abbrev pub sum_of : {X : Type 0} → (X → ℕ) → List X → ℕ
sum_of n [] = 0
sum_of n (x ∷ xs) = n x + sum_of n xs

abbrev pub gather : {X Y : Type 0} → (X → List Y) → List X → List Y
gather g [] = []
gather g (x ∷ xs) = g x ++ gather g xs

-- one step that gives a forest
abbrev pub at_once : {A : Type 0} → Forest A → Answer A
at_once f = record { forest = f; steps = 1; built = [] }

-- one step more, and the forest changed
abbrev pub after : {A : Type 0} → (Forest A → Forest A) → Answer A → Answer A
after g x = record { forest = g x.forest; steps = suc x.steps; built = x.built }

-- one step, with those of x and then of y; the forest is y's
abbrev pub then_answer : {A : Type 0} → Answer A → Answer A → Answer A
then_answer x y = record { forest = y.forest; steps = suc (x.steps + y.steps); built = x.built ++ y.built }

module _ (K : Semiring) where
  -- the variables and the items of a scope
  abbrev pub the_tree : Scope K.carrier → ℕ → TreeOf K
  the_tree s v = bound_tree (slice_index_or s.bound v (a_forest empty))

  abbrev pub the_forest : Scope K.carrier → ℕ → ForestOf K
  the_forest s v = bound_forest (slice_index_or s.bound v (a_forest empty))

  abbrev pub the_item : Scope K.carrier → ℕ → K.carrier
  the_item s i = slice_index_or s.items i K.zero

  -- UNION
  abbrev pub both_answers : Answer K.carrier → Answer K.carrier → Answer K.carrier
  both_answers x y = record { forest = union K x.forest y.forest; steps = suc (x.steps + y.steps); built = x.built ++ y.built }

  -- MAKE and NAMED: one tree with this label is built
  abbrev pub building : ℕ → Answer K.carrier → Answer K.carrier
  building l x =
      record { forest = single K (tree l x.forest); steps = suc x.steps; built = x.built ++ (tree l x.forest ∷ []) }

  -- the body of a FOR, once for each tree of a forest
  abbrev pub each : (TreeOf K → Answer K.carrier) → ForestOf K → Answer K.carrier
  each g f =
      record { forest = sum_over K (λ t. (g t).forest) f; steps = sum_of (λ t. (g t).steps) (trees f); built = gather (λ t. (g t).built) (trees f) }

  -- one line a command, like the table of commands
  abbrev pub evaluate : Query → Scope K.carrier → Answer K.carrier
  evaluate none s = at_once empty
  evaluate (document n) s = at_once (slice_index_or s.slots n empty)
  evaluate (tree_of v) s = at_once (single K (the_tree s v))
  evaluate (held v) s = at_once (the_forest s v)
  evaluate (both e f) s = both_answers (evaluate e s) (evaluate f s)
  evaluate (scaled i e) s = after (scale K (the_item s i)) (evaluate e s)
  evaluate (make l e) s = building l (evaluate e s)
  evaluate (named v e) s = building (label (the_tree s v)) (evaluate e s)
  evaluate (child e) s = after (sum_over K children) (evaluate e s)
  evaluate (below e) s = after (sum_over K (below_tree K)) (evaluate e s)
  evaluate (only_of l e) s = after (only K l) (evaluate e s)
  evaluate (for_each e f) s =
      let x = evaluate e s in then_answer x (each (λ t. evaluate f (binding s (a_tree t))) x.forest)
  evaluate (let_be e f) s =
      let x = evaluate e s in then_answer x (evaluate f (binding s (a_forest x.forest)))
  evaluate (if_name v l e f) s =
      after (λ x. x) (elim (label (the_tree s v) == l) [ true ↦ evaluate e s | false ↦ evaluate f s ])
  evaluate (if_alike v w e f) s =
      after (λ x. x) (elim (label (the_tree s v) == label (the_tree s w)) [ true ↦ evaluate e s | false ↦ evaluate f s ])
