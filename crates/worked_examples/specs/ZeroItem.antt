-- The item zero, in every lawful kind.
use Rattle.std.specs.Prelude.{◌≡◌, ℕ, ◌*◌, ◌≤◌, true, [], ◌∷◌, replicate, Ok}
use Rattle.kinds.specs.Semiring.{Semiring}
use Rattle.formats.specs.Trees.{tree, empty}
use Rattle.uxml.specs.Stores.{Limits, well_sized, as_document}
use Rattle.uxml.specs.Uses.{run, use_outcomes}
use Rattle.worked_examples.specs.Showing.{asked}
use Rattle.worked_examples.specs.Examples.{scaled_leaf}

-- In a new store of any size, with an item that is zero, item 0 times a new leaf gives the empty forest in so many steps; the stock then has two
-- trees, the empty document and the leaf that was built.
abbrev pub ZeroItemGivesNothing : Semiring → (steps : ℕ) → Type 0
ZeroItemGivesNothing K steps =
    (m : Limits) (budget work : ℕ) → well_sized m ≡ true → 33 * m.trees ≤ work → steps ≤ budget
    → use_outcomes K m (run 1 (asked scaled_leaf) (K.zero ∷ []) budget work ∷ [])
    ≡ Ok (record { state = record { slots = replicate 16 empty; stock = tree 4 empty ∷ as_document empty ∷ [] }; steps = steps }) ∷ []
