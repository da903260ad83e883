-- Reading is exact: what is in range reads back from its written bytes, and what reads was written so and is in range.
-- What is refused, with its number and place, is a function of the bytes (and, for a document, of the length of its list).
use Rattle.std.specs.Prelude.{◌≡◌, ℕ, ◌+◌, ◌<◌, ◌≤◌, List, [], ◌∷◌, length, Ok}
use mathlib.Core.List.{Memᴰ as On}
use Rattle.formats.specs.Trees.{Forest}
use Rattle.formats.specs.Queries.{Query}
use Rattle.formats.specs.Reading.{byte, word}
use Rattle.formats.specs.Documents.{read_document}
use Rattle.formats.specs.QueryBytes.{read_query}
use Rattle.formats.specs.Items.{Scaling}
use Rattle.formats.specs.Writing.{write_document, write_query, Proper, Sound}

-- a list of bytes
abbrev pub Bytes : List ℕ → Type 0
Bytes bytes = (i : ℕ) → byte bytes i < 256

-- A forest of item numbers that a document can have: labels from 1 to 65,535, items that a list of so many has, and at most so
-- many levels and so many bytes.
pub record InRange (items levels most : ℕ) (f : Forest ℕ) : Type 0 where
  pub proper : Proper items levels f
  pub short : length (write_document f) ≤ most

-- A query that bytes can have: well scoped, operands in range, at most eight binders at a place, and at most so many levels of
-- commands and so many bytes.
pub record WellFormed (levels most : ℕ) (q : Query) : Type 0 where
  pub sound : Sound levels [] q
  pub short : length (write_query q) ≤ most

abbrev pub DocumentsReadBack : (levels most : ℕ) → Type 0
DocumentsReadBack levels most =
    (f : Forest ℕ) (items : ℕ) → InRange items levels most f → read_document (write_document f) items ≡ Ok f

abbrev pub DocumentsExact : (levels most : ℕ) → Type 0
DocumentsExact levels most =
    (bytes : List ℕ) (items : ℕ) (f : Forest ℕ) → Bytes bytes → read_document bytes items ≡ Ok f
    → (bytes ≡ write_document f) × InRange items levels most f

abbrev pub QueriesReadBack : (levels most : ℕ) → Type 0
QueriesReadBack levels most = (q : Query) → WellFormed levels most q → read_query (write_query q) ≡ Ok q

abbrev pub QueriesExact : (levels most : ℕ) → Type 0
QueriesExact levels most =
    (bytes : List ℕ) (q : Query) → Bytes bytes → read_query bytes ≡ Ok q → (bytes ≡ write_query q) × WellFormed levels most q

-- Some SCALE commands stand in bytes: each at its place, with its item.
pub record StandsThere (bytes : List ℕ) (s : Scaling) : Type 0 where
  pub command : byte bytes s.place ≡ 0x25
  pub operand : word bytes (s.place + 1) ≡ s.item

-- they are listed from left to right, between two places
abbrev pub Ascend : (from to : ℕ) → List Scaling → Type 0
Ascend from to [] = from ≤ to
Ascend from to (s ∷ rest) = (from ≤ s.place) × Ascend (s.place + 1) to rest

-- The list of a query's SCALE commands: from left to right in its bytes, each where it stands.
pub record ListsScalings (list : Query → List Scaling) (q : Query) : Type 0 where
  pub stand : (s : Scaling) → On s (list q) → StandsThere (write_query q) s
  pub ascend : Ascend 0 (length (write_query q)) (list q)
