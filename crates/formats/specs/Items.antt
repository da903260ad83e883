-- The items of a query: a run tests them against its list, from left to right, before it evaluates.
use Rattle.std.specs.Prelude.{ℕ, ◌+◌, List, [], ◌∷◌, ◌++◌, Ok, nat_le}
use Rattle.formats.specs.declared.refusals.Refusal.TheVariants.{NoSuchItem}
use Rattle.formats.specs.Queries.{Query, none, document, tree_of, held, both, scaled, make, named, child, below, only_of, for_each, let_be, if_name, if_alike}
use Rattle.formats.specs.Reading.{Reading, refuse_if}

-- how many bytes a query is written with
abbrev pub size : Query → ℕ
size none = 1
size (document s) = 2
size (tree_of v) = 2
size (held v) = 2
size (both e f) = 1 + size e + size f
size (scaled i e) = 3 + size e
size (make l e) = 3 + size e
size (named v e) = 2 + size e
size (child e) = 1 + size e
size (below e) = 1 + size e
size (only_of l e) = 3 + size e
size (for_each e f) = 1 + size e + size f
size (let_be e f) = 1 + size e + size f
size (if_name v l e f) = 4 + size e + size f
size (if_alike v w e f) = 3 + size e + size f

-- A SCALE of a query: where it stands, and its item.
pub record Scaling : Type 0 where
  pub place : ℕ
  pub item : ℕ

-- the SCALE commands of a query that stands at an offset, from left to right
abbrev pub scalings : (at : ℕ) → Query → List Scaling
scalings at none = []
scalings at (document s) = []
scalings at (tree_of v) = []
scalings at (held v) = []
scalings at (both e f) = scalings (at + 1) e ++ scalings (at + (1 + size e)) f
scalings at (scaled i e) = record { place = at; item = i } ∷ scalings (at + 3) e
scalings at (make l e) = scalings (at + 3) e
scalings at (named v e) = scalings (at + 2) e
scalings at (child e) = scalings (at + 1) e
scalings at (below e) = scalings (at + 1) e
scalings at (only_of l e) = scalings (at + 3) e
scalings at (for_each e f) = scalings (at + 1) e ++ scalings (at + (1 + size e)) f
scalings at (let_be e f) = scalings (at + 1) e ++ scalings (at + (1 + size e)) f
scalings at (if_name v l e f) = scalings (at + 4) e ++ scalings (at + (4 + size e)) f
scalings at (if_alike v w e f) = scalings (at + 3) e ++ scalings (at + (3 + size e)) f

-- refused at the first of them whose item a list of so many items lacks
abbrev pub all_there : (items : ℕ) → List Scaling → Reading (Unit {0})
all_there items [] = Ok tt
all_there items (s ∷ rest) = refuse_if (nat_le items s.item) NoSuchItem s.place (all_there items rest)

-- A run's test of its query's items, also of those that would never be evaluated.
abbrev pub test_items : (items : ℕ) → Query → Reading (Unit {0})
test_items items q = all_there items (scalings 0 q)
