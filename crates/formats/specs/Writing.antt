-- The bytes that a forest of item numbers and a query are written with, and what can be written.
use Rattle.std.specs.Prelude.{◌≡◌, ℕ, ◌-◌, ◌/◌, ◌%◌, ◌<◌, ◌≤◌, true, List, [], ◌∷◌, length, Some}
use Rattle.formats.specs.declared.commands.Sort.TheVariants.{OfTree, OfForest}
use Rattle.formats.specs.Trees.{Tree, Forest, tree, empty, entry}
use Rattle.formats.specs.Queries.{Query, none, document, tree_of, held, both, scaled, make, named, child, below, only_of, for_each, let_be, if_name, if_alike}
use Rattle.formats.specs.QueryBytes.{Sorts, is_bound, with_new}

-- A number below 65,536 as two bytes, most significant first, before others.
abbrev pub two_bytes : ℕ → List ℕ → List ℕ
two_bytes n rest = (n / 256) ∷ (n % 256) ∷ rest

-- the bytes of a tree, of a forest and of a query, before others: so nothing has to be joined
abbrev mutual
  pub write_tree : Tree ℕ → ℕ → List ℕ → List ℕ
  write_tree (tree l f) i rest = 0x10 ∷ two_bytes l (two_bytes i (write_forest f (0x11 ∷ rest)))

  pub write_forest : Forest ℕ → List ℕ → List ℕ
  write_forest empty rest = rest
  write_forest (entry t i f) rest = write_tree t i (write_forest f rest)

abbrev pub write_document : Forest ℕ → List ℕ
write_document f = write_forest f (0x1F ∷ [])

-- one line a command, like the table of commands
abbrev pub write : Query → List ℕ → List ℕ
write none rest = 0x20 ∷ rest
write (document s) rest = 0x21 ∷ s ∷ rest
write (tree_of v) rest = 0x22 ∷ v ∷ rest
write (held v) rest = 0x23 ∷ v ∷ rest
write (both e f) rest = 0x24 ∷ write e (write f rest)
write (scaled i e) rest = 0x25 ∷ two_bytes i (write e rest)
write (make l e) rest = 0x26 ∷ two_bytes l (write e rest)
write (named v e) rest = 0x27 ∷ v ∷ write e rest
write (child e) rest = 0x28 ∷ write e rest
write (below e) rest = 0x29 ∷ write e rest
write (only_of l e) rest = 0x2A ∷ two_bytes l (write e rest)
write (for_each e f) rest = 0x2B ∷ write e (write f rest)
write (let_be e f) rest = 0x2C ∷ write e (write f rest)
write (if_name v l e f) rest = 0x2D ∷ v ∷ two_bytes l (write e (write f rest))
write (if_alike v w e f) rest = 0x2E ∷ v ∷ w ∷ write e (write f rest)

abbrev pub write_query : Query → List ℕ
write_query q = write q []

-- a label, and an item of a list of so many, that two bytes can say
abbrev pub Label : ℕ → Type 0
Label l = (0 < l) × (l < 65536)

abbrev pub Item : ℕ → ℕ → Type 0
Item items i = (i < items) × (i < 65536)

-- Trees of at most so many levels, with labels and items in range.
abbrev mutual
  pub ProperTree : (items levels : ℕ) → Tree ℕ → Type 0
  ProperTree items levels (tree l f) = (0 < levels) × Label l × Proper items (levels - 1) f

  pub Proper : (items levels : ℕ) → Forest ℕ → Type 0
  Proper items levels empty = Unit {0}
  Proper items levels (entry t i f) = ProperTree items levels t × Item items i × Proper items levels f

-- Queries whose commands nest so many levels deep, well scoped, with operands in range and at most eight binders at a place.
abbrev pub Sound : (levels : ℕ) → Sorts → Query → Type 0
Sound levels scope none = 0 < levels
Sound levels scope (document s) = (0 < levels) × (s ≤ 15)
Sound levels scope (tree_of v) = (0 < levels) × (is_bound scope v OfTree ≡ true)
Sound levels scope (held v) = (0 < levels) × (is_bound scope v OfForest ≡ true)
Sound levels scope (both e f) = (0 < levels) × Sound (levels - 1) scope e × Sound (levels - 1) scope f
Sound levels scope (scaled i e) = (0 < levels) × (i < 65536) × Sound (levels - 1) scope e
Sound levels scope (make l e) = (0 < levels) × Label l × Sound (levels - 1) scope e
Sound levels scope (named v e) = (0 < levels) × (is_bound scope v OfTree ≡ true) × Sound (levels - 1) scope e
Sound levels scope (child e) = (0 < levels) × Sound (levels - 1) scope e
Sound levels scope (below e) = (0 < levels) × Sound (levels - 1) scope e
Sound levels scope (only_of l e) = (0 < levels) × Label l × Sound (levels - 1) scope e
Sound levels scope (for_each e f) =
    (0 < levels) × (length scope < 8) × Sound (levels - 1) scope e × Sound (levels - 1) (with_new scope (Some OfTree)) f
Sound levels scope (let_be e f) =
    (0 < levels) × (length scope < 8) × Sound (levels - 1) scope e × Sound (levels - 1) (with_new scope (Some OfForest)) f
Sound levels scope (if_name v l e f) =
    (0 < levels) × (is_bound scope v OfTree ≡ true) × Label l × Sound (levels - 1) scope e × Sound (levels - 1) scope f
Sound levels scope (if_alike v w e f) =
    (0 < levels) × (is_bound scope v OfTree ≡ true) × (is_bound scope w OfTree ≡ true) × Sound (levels - 1) scope e × Sound (levels - 1) scope f
