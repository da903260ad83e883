-- What a store holds: 16 documents and a stock.
use Rattle.std.specs.Prelude.{ℕ, Bool, cond, ◌&&◌, List, [], ◌∷◌, ◌++◌, length, replicate, nat_le, slice_set}
use Rattle.kinds.specs.Semiring.{Semiring}
use Rattle.formats.specs.Trees.{Tree, Forest, tree, empty, trees, children}
use Rattle.uxml.specs.Forests.{TreeOf, ForestOf, known}
use Rattle.uxml.specs.Evaluation.{sum_of}

-- The lengths of the tree table and of the entry table, which are the store's limits.
pub record Limits : Type 0 where
  pub trees : ℕ
  pub entries : ℕ

-- 16 to 1,024 trees, 16 to 8,192 entries
abbrev pub well_sized : Limits → Bool
well_sized m = (nat_le 16 m.trees && nat_le m.trees 1024) && (nat_le 16 m.entries && nat_le m.entries 8192)

-- The documents by slot, and the trees met since the making or the last clear, each once, in an order that means nothing.
-- In the stock a document counts as a tree of label 0.
pub record State (A : Type 0) : Type 0 where
  pub slots : List (Forest A)
  pub stock : List (Tree A)

-- a document, as the stock counts it
abbrev pub as_document : {A : Type 0} → Forest A → Tree A
as_document f = tree 0 f

-- a new store: 16 empty documents, and a stock of one tree, the empty document
abbrev pub new_state : {A : Type 0} → State A
new_state = record { slots = replicate 16 empty; stock = as_document empty ∷ [] }

-- the trees of the child forests, counted over all trees of a stock
abbrev pub entries : {A : Type 0} → List (Tree A) → ℕ
entries s = sum_of (λ t. length (trees (children t))) s

module _ (K : Semiring) where
  -- the stock once the trees of a list have been met
  abbrev pub meet : List (TreeOf K) → List (TreeOf K) → List (TreeOf K)
  meet [] s = s
  meet (t ∷ ts) s = meet ts (cond (known K t s) s (t ∷ s))

  -- a document stored in a slot, after the trees of a list and the document have been met
  abbrev pub storing : State K.carrier → ℕ → ForestOf K → List (TreeOf K) → State K.carrier
  storing s n f met = record { slots = slice_set s.slots n f; stock = meet (met ++ (as_document f ∷ [])) s.stock }

-- a state within the limits
abbrev pub fits : {A : Type 0} → Limits → State A → Bool
fits m s = nat_le (length s.stock) m.trees && nat_le (entries s.stock) m.entries
