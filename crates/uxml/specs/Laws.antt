-- What the definitions say in the subject's words: equality, normal forests, the annotation that each command gives,
-- and that nothing depends on the order in which forests are listed.
use Rattle.std.specs.Prelude.{◌≡◌, ℕ, true, false, cond, ◌||◌, ◌≢◌, List, [], ◌∷◌, length, Ok, Err, ◌==◌, slice_index_or}
use Rattle.kinds.specs.Semiring.{Semiring}
use Rattle.formats.specs.Trees.{Forest, tree, empty, label, children, In}
use Rattle.formats.specs.declared.refusals.Fault.{Fault}
use Rattle.formats.specs.Queries.{Query}
use Rattle.formats.specs.Reading.{Reading}
use Rattle.uxml.specs.Forests.{TreeOf, ForestOf, total, same_tree, at, below_tree, known}
use Rattle.uxml.specs.Normal.{Normal, NormalTree}
use Rattle.uxml.specs.Images.{image_tree}
use Rattle.uxml.specs.Evaluation.{Scope, Answer, evaluate, binding, a_tree, a_forest, the_tree, the_forest, the_item}
use Rattle.uxml.specs.Stores.{Limits, State, as_document}
use Rattle.uxml.specs.Uses.{Call, Done, use_outcomes}
use Rattle.uxml.specs.Equality.{Each, Same, NormalScope, EqualScopes}

-- a relation like equality
pub record Equivalence {X : Type 0} (R : X → X → Type 0) : Type 0 where
  pub reflexive : (x : X) → R x x
  pub symmetric : (x y : X) → R x y → R y x
  pub transitive : (x y z : X) → R x y → R y z → R x z

module _ (K : Semiring) where
  -- A normal forest lists exactly the trees whose annotation is not zero, each at its annotation.
  pub record ListsItsTrees (f : ForestOf K) : Type 0 where
    pub listed : (t : TreeOf K) (a : K.carrier) → In t a f → (at K f t ≡ a) × (a ≢ K.zero)
    pub present : (t : TreeOf K) → at K f t ≢ K.zero → (u : TreeOf K) × In u (at K f t) f × Same K t u

  -- Operations that give normal forests.
  abbrev pub KeepsNormal : (ForestOf K → ForestOf K) → Type 0
  KeepsNormal op = (f : ForestOf K) → Normal K f → Normal K (op f)

  abbrev pub KeepsBothNormal : (ForestOf K → ForestOf K → ForestOf K) → Type 0
  KeepsBothNormal op = (f g : ForestOf K) → Normal K f → Normal K g → Normal K (op f g)

  abbrev pub MakesNormal : (TreeOf K → ForestOf K) → Type 0
  MakesNormal op = (t : TreeOf K) → NormalTree K t → Normal K (op t)

  -- the sum over a forest's trees of what g makes of each
  abbrev pub SumsNormal : ((TreeOf K → ForestOf K) → ForestOf K → ForestOf K) → Type 0
  SumsNormal op = (g : TreeOf K → ForestOf K) (f : ForestOf K) → ((t : TreeOf K) (a : K.carrier) → In t a f → Normal K (g t)) → Normal K (op g f)

  -- In a normal scope a query gives a normal forest and builds normal trees.
  pub record NormalAnswer (x : Answer K.carrier) : Type 0 where
    pub forest : Normal K x.forest
    pub built : Each (NormalTree K) x.built

  abbrev pub AnswersNormal : (Query → Scope K.carrier → Answer K.carrier) → Type 0
  AnswersNormal ev = (q : Query) (s : Scope K.carrier) → NormalScope K s → NormalAnswer (ev q s)

  -- the forest of a query, and the annotation of the tree v in it
  abbrev pub gives : Query → Scope K.carrier → ForestOf K
  gives q s = (evaluate K q s).forest

  abbrev pub given : Query → Scope K.carrier → TreeOf K → K.carrier
  given q s v = at K (gives q s) v

  -- one at the tree t, zero at every other
  abbrev pub one_at : TreeOf K → TreeOf K → K.carrier
  one_at t v = cond (same_tree K t v) K.one K.zero

  -- the sum, over the trees t of f, of f(t) times φ t
  abbrev pub sum_at : ForestOf K → (TreeOf K → K.carrier) → K.carrier
  sum_at f φ = total K (λ t a. K.times (at K f t) (φ t)) f

  -- A query gives each tree v the annotation φ s v, in every normal scope s.
  abbrev pub Gives : Query → (Scope K.carrier → TreeOf K → K.carrier) → Type 0
  Gives q φ = (s : Scope K.carrier) → NormalScope K s → (v : TreeOf K) → given q s v ≡ φ s v

  -- What each command gives, tree by tree; c is the command.
  abbrev pub GivesNothing : Query → Type 0
  GivesNothing c = Gives c (λ s v. K.zero)

  abbrev pub GivesADocument : (ℕ → Query) → Type 0
  GivesADocument c = (n : ℕ) → Gives (c n) (λ s v. at K (slice_index_or s.slots n empty) v)

  abbrev pub GivesATree : (ℕ → Query) → Type 0
  GivesATree c = (x : ℕ) → Gives (c x) (λ s v. one_at (the_tree K s x) v)

  abbrev pub GivesAForest : (ℕ → Query) → Type 0
  GivesAForest c = (x : ℕ) → Gives (c x) (λ s v. at K (the_forest K s x) v)

  abbrev pub GivesTheSum : (Query → Query → Query) → Type 0
  GivesTheSum c = (e f : Query) → Gives (c e f) (λ s v. K.plus (given e s v) (given f s v))

  abbrev pub GivesTheMultiple : (ℕ → Query → Query) → Type 0
  GivesTheMultiple c = (i : ℕ) (e : Query) → Gives (c i e) (λ s v. K.times (given e s v) (the_item K s i))

  abbrev pub GivesANewTree : (ℕ → Query → Query) → Type 0
  GivesANewTree c = (l : ℕ) (e : Query) → Gives (c l e) (λ s v. one_at (tree l (gives e s)) v)

  abbrev pub GivesANamedTree : (ℕ → Query → Query) → Type 0
  GivesANamedTree c = (x : ℕ) (e : Query) → Gives (c x e) (λ s v. one_at (tree (label (the_tree K s x)) (gives e s)) v)

  abbrev pub GivesTheChildren : (Query → Query) → Type 0
  GivesTheChildren c = (e : Query) → Gives (c e) (λ s v. sum_at (gives e s) (λ t. at K (children t) v))

  abbrev pub GivesAllBelow : (Query → Query) → Type 0
  GivesAllBelow c = (e : Query) → Gives (c e) (λ s v. sum_at (gives e s) (λ t. at K (below_tree K t) v))

  abbrev pub GivesThoseLabelled : (ℕ → Query → Query) → Type 0
  GivesThoseLabelled c = (l : ℕ) (e : Query) → Gives (c l e) (λ s v. cond (label v == l) (given e s v) K.zero)

  abbrev pub GivesForEach : (Query → Query → Query) → Type 0
  GivesForEach c = (e f : Query) → Gives (c e f) (λ s v. sum_at (gives e s) (λ t. given f (binding s (a_tree t)) v))

  abbrev pub GivesWithTheForest : (Query → Query → Query) → Type 0
  GivesWithTheForest c = (e f : Query) → Gives (c e f) (λ s v. given f (binding s (a_forest (gives e s))) v)

  abbrev pub GivesByLabel : (ℕ → ℕ → Query → Query → Query) → Type 0
  GivesByLabel c =
      (x l : ℕ) (e f : Query) → Gives (c x l e f) (λ s v. cond (label (the_tree K s x) == l) (given e s v) (given f s v))

  abbrev pub GivesByTwoLabels : (ℕ → ℕ → Query → Query → Query) → Type 0
  GivesByTwoLabels c =
      (x y : ℕ) (e f : Query) → Gives (c x y e f)
      (λ s v. cond (label (the_tree K s x) == label (the_tree K s y)) (given e s v) (given f s v))

  -- D(t), all that is below t: t at one, plus the sum over its children c of c's annotation times D(c).
  abbrev pub IsAllBelow : (TreeOf K → ForestOf K) → Type 0
  IsAllBelow d =
      (t : TreeOf K) → NormalTree K t → (v : TreeOf K) → at K (d t) v ≡ K.plus (one_at t v) (sum_at (children t) (λ c. at K (d c) v))

  -- A query has related answers in equal scopes.
  abbrev pub RelatesEqualScopes : (Answer K.carrier → Answer K.carrier → Type 0) → Type 0
  RelatesEqualScopes R =
      (q : Query) (s u : Scope K.carrier) → NormalScope K s → NormalScope K u → EqualScopes K s u → R (evaluate K q s) (evaluate K q u)

-- A stock has no tree twice.
abbrev pub Distinct : (K : Semiring) → List (TreeOf K) → Type 0
Distinct K [] = Unit {0}
Distinct K (t ∷ ts) = (known K t ts ≡ false) × Distinct K ts

-- Meeting trees adds them to a stock as to a set: a tree is in it afterwards if it was before or is among those met, and none is there twice.
pub record MeetsAsASet (K : Semiring) (meeting : List (TreeOf K) → List (TreeOf K) → List (TreeOf K)) (ts s : List (TreeOf K)) : Type 0 where
  pub members : (t : TreeOf K) → known K t (meeting ts s) ≡ (known K t ts || known K t s)
  pub once : Distinct K s → Distinct K (meeting ts s)

-- 16 normal documents, and a stock of normal trees, none of them twice, in which each document is.
pub record NormalState (K : Semiring) (s : State K.carrier) : Type 0 where
  pub sixteen : length s.slots ≡ 16
  pub documents : Each (Normal K) s.slots
  pub stocked : Each (λ f. known K (as_document f) s.stock ≡ true) s.slots
  pub stock : Each (NormalTree K) s.stock
  pub once : Distinct K s.stock

-- a call is refused, or leaves a state with P
pub data Leaves {A : Type 0} (P : State A → Type 0) : Reading (Done A) → Type 0 where
  refused : {e : Fault} → Leaves P (Err e)
  leaves : {d : Done A} → P d.state → Leaves P (Ok d)

-- Whatever its calls, a use leaves states with P after each completed call.
abbrev pub UsesLeave : (K : Semiring) → (State K.carrier → Type 0) → Type 0
UsesLeave K P = (m : Limits) (calls : List (Call K.carrier)) → Each (Leaves P) (use_outcomes K m calls)

-- The image of a forest is normal, and in it trees whose images are equal have the images of their annotations added.
pub record AddsImages {A : Type 0} (L : Semiring) (h : A → L.carrier) (f : Forest A) (g : ForestOf L) : Type 0 where
  pub normal : Normal L g
  pub sums : (v : TreeOf L) → at L g v ≡ total L (λ t a. cond (same_tree L (image_tree L h t) v) (h a) L.zero) f
