-- How an example is put: tests that compute over the definitions.
use Rattle.std.specs.Prelude.{ℕ, Bool, true, false, ◌&&◌, List, [], ◌∷◌, length, Ok, Err, ◌==◌, slice_index_or}
use Rattle.kinds.specs.Semiring.{Semiring}
use Rattle.kinds.specs.Upto.{Upto, held}
use Rattle.formats.specs.Trees.{Forest, tree, empty, entry}
use Rattle.formats.specs.Queries.{Query, none}
use Rattle.formats.specs.Refusals.{refusal_number}
use Rattle.formats.specs.Reading.{Reading}
use Rattle.formats.specs.QueryBytes.{read_query}
use Rattle.uxml.specs.Forests.{ForestOf, same_tree}
use Rattle.uxml.specs.Stores.{Limits, as_document, new_state, entries}
use Rattle.uxml.specs.Uses.{Call, Done, use_outcomes}

-- the smallest tables, with just enough working memory
abbrev pub small : Limits
small = record { trees = 16; entries = 16 }

abbrev pub small_work : ℕ
small_work = 528

abbrev pub count : ℕ → Upto 1000000
count n = held 1000000 n

-- a forest with a leaf more
abbrev pub leaf : {A : Type 0} → ℕ → A → Forest A → Forest A
leaf l a f = entry (tree l empty) a f

-- the query that bytes read as
abbrev pub asked : List ℕ → Query
asked bytes = elim (read_query bytes) [ Ok q ↦ q | Err e ↦ none ]

-- the last outcome of a use
abbrev pub last : {A : Type 0} → Reading (Done A) → List (Reading (Done A)) → Reading (Done A)
last o [] = o
last o (p ∷ os) = last p os

-- a reading is refused by this number at this place
abbrev pub refused_by : {X : Type 0} → ℕ → ℕ → Reading X → Bool
refused_by number place (Ok x) = false
refused_by number place (Err e) = refusal_number e.refusal == number && e.place == place

-- What a use of a small store ends with: in a slot a document, after so many steps, with so many trees and entries in stock.
module _ (K : Semiring) where
  abbrev pub holds : (slot : ℕ) → ForestOf K → (steps trees entries : ℕ) → Reading (Done K.carrier) → Bool
  holds n f steps many more (Ok d) =
      same_tree K (as_document (slice_index_or d.state.slots n empty)) (as_document f)
      && (d.steps == steps && (length d.state.stock == many && entries d.state.stock == more))
  holds n f steps many more (Err e) = false

  -- the outcome of the last call of a use of small tables; a use without calls leaves the new store
  abbrev pub ending : List (Call K.carrier) → Reading (Done K.carrier)
  ending calls = last (Ok (record { state = new_state; steps = 0 })) (use_outcomes K small calls)

abbrev pub all_hold : List Bool → Bool
all_hold [] = true
all_hold (b ∷ bs) = b && all_hold bs
