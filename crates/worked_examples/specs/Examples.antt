-- One table of worked examples: each row is a test over the definitions. All bytes are read by the definitions' own readers.
use Rattle.std.specs.Prelude.{ℕ, zero, suc, Bool, true, false, List, [], ◌∷◌, ◌++◌, replicate, nat_le}
use Rattle.kinds.specs.Semiring.{Semiring}
use Rattle.kinds.specs.Flags.{flags}
use Rattle.kinds.specs.Upto.{Upto, held, counts, ranks}
use Rattle.kinds.specs.Pairs.{pairs}
use Rattle.formats.specs.Trees.{Tree, Forest, tree, empty, entry}
use Rattle.formats.specs.Documents.{read_document}
use Rattle.formats.specs.QueryBytes.{read_query}
use Rattle.uxml.specs.Stores.{new_state}
use Rattle.uxml.specs.Uses.{Call, load, run, carry, clear, outcome, mapped_use}
use Rattle.worked_examples.specs.Showing.{small, small_work, count, leaf, asked, refused_by, holds, ending}

-- label 1 over label 2 and label 3, which is over label 2 again
abbrev pub family : List ℕ
family = 0x10 ∷ 0 ∷ 1 ∷ 0 ∷ 0 ∷ 0x10 ∷ 0 ∷ 2 ∷ 0 ∷ 1 ∷ 0x11 ∷ 0x10 ∷ 0 ∷ 3 ∷ 0 ∷ 2 ∷ 0x10 ∷ 0 ∷ 2 ∷ 0 ∷ 0 ∷ 0x11 ∷ 0x11 ∷ 0x11 ∷ 0x1F ∷ []

-- item 0 times a new leaf of label 4
abbrev pub scaled_leaf : List ℕ
scaled_leaf = 0x25 ∷ 0 ∷ 0 ∷ 0x26 ∷ 0 ∷ 4 ∷ 0x20 ∷ []

-- the trees of label 2 in everything below slot 0
abbrev pub twos_below : List ℕ
twos_below = 0x2A ∷ 0 ∷ 2 ∷ 0x29 ∷ 0x21 ∷ 0 ∷ []

-- so many leaves at item 0, of different labels
abbrev pub leaves : ℕ → List ℕ
leaves zero = 0x1F ∷ []
leaves (suc n) = 0x10 ∷ 0 ∷ suc n ∷ 0 ∷ 0 ∷ 0x11 ∷ leaves n

-- the same bytes again and again
abbrev pub repeated : ℕ → List ℕ → List ℕ
repeated zero xs = []
repeated (suc n) xs = xs ++ repeated n xs

-- label 3 over label 2 at 1, as it stands in the family
abbrev pub three : Tree (Upto 1000000)
three = tree 3 (leaf 2 (count 1) empty)

-- label 3 over label 2 at item 0, beside label 3 over label 2 at item 1
abbrev pub two_threes : List ℕ
two_threes =
    0x10 ∷ 0 ∷ 3 ∷ 0 ∷ 0 ∷ 0x10 ∷ 0 ∷ 2 ∷ 0 ∷ 0 ∷ 0x11 ∷ 0x11
    ∷ 0x10 ∷ 0 ∷ 3 ∷ 0 ∷ 0 ∷ 0x10 ∷ 0 ∷ 2 ∷ 0 ∷ 1 ∷ 0x11 ∷ 0x11 ∷ 0x1F ∷ []

abbrev pub counting : Semiring
counting = counts 1000000

abbrev pub pairing : Semiring
pairing = pairs flags counting

abbrev pub in_counts : List (Upto 1000000)
in_counts = count 1 ∷ count 2 ∷ count 3 ∷ []

-- public, secret, confidential
abbrev pub in_clearances : List (Upto 4)
in_clearances = held 4 4 ∷ held 4 2 ∷ held 4 3 ∷ []

-- the map that is yes from public up
abbrev pub public_only : Upto 4 → Bool
public_only a = nat_le 4 a.0

-- the right half of a pair
abbrev pub right_half : Bool × Upto 1000000 → Upto 1000000
right_half a = a.1

-- the family in slot 0, then its twos into slot 1
abbrev pub asking : {A : Type 0} → List A → (budget : ℕ) → List (Call A)
asking items budget = load 0 family items small_work ∷ run 1 (asked twos_below) [] budget small_work ∷ []

-- the family in slot 0 under counts 1, 2, 3, then another query into slot 1
abbrev pub asking_for : List ℕ → List (Call (Upto 1000000))
asking_for query = load 0 family in_counts small_work ∷ run 1 (asked query) [] 99 small_work ∷ []

-- the leaf 2 twice, at items 0 and 1
abbrev pub siblings : List (Call (Upto 1000000))
siblings =
    load 0 (0x10 ∷ 0 ∷ 2 ∷ 0 ∷ 0 ∷ 0x11 ∷ 0x10 ∷ 0 ∷ 2 ∷ 0 ∷ 1 ∷ 0x11 ∷ 0x1F ∷ []) (count 2 ∷ count 3 ∷ []) small_work ∷ []

-- the leaf 2 at 2; then for each tree of slot 0 the tree and the tree again
abbrev pub doubling : List (Call (Upto 1000000))
doubling =
    load 0 (0x10 ∷ 0 ∷ 2 ∷ 0 ∷ 0 ∷ 0x11 ∷ 0x1F ∷ []) (count 2 ∷ []) small_work
    ∷ run 1 (asked (0x2B ∷ 0x21 ∷ 0 ∷ 0x24 ∷ 0x22 ∷ 0 ∷ 0x22 ∷ 0 ∷ [])) [] 5 small_work ∷ []

-- so many leaves at one, of different labels: as they are loaded, and as a forest
abbrev pub loading_leaves : ℕ → List (Call (Upto 1000000))
loading_leaves n = load 0 (leaves n) (count 1 ∷ []) small_work ∷ []

abbrev pub ones : ℕ → Forest (Upto 1000000)
ones zero = empty
ones (suc n) = leaf (suc n) (count 1) (ones n)

-- item 0 times a new leaf 4
abbrev pub scaling : List (Upto 1000000) → List (Call (Upto 1000000))
scaling items = run 1 (asked scaled_leaf) items 3 small_work ∷ []

-- label 3 over label 2 at (yes, 1), beside label 3 over label 2 at (no, 1)
abbrev pub pairing_up : List (Call (Bool × Upto 1000000))
pairing_up = load 0 two_threes ((true, count 1) ∷ (false, count 1) ∷ []) small_work ∷ []

-- a leaf at (yes, 0); then each tree of slot 0 times (no, 1): the product is zero, though neither is
abbrev pub cancelling : List (Call (Bool × Upto 1000000))
cancelling =
    load 0 (0x10 ∷ 0 ∷ 2 ∷ 0 ∷ 0 ∷ 0x11 ∷ 0x1F ∷ []) ((true, count 0) ∷ []) small_work
    ∷ run 1 (asked (0x2B ∷ 0x21 ∷ 0 ∷ 0x25 ∷ 0 ∷ 0 ∷ 0x22 ∷ 0 ∷ [])) ((false, count 1) ∷ []) 4 small_work ∷ []

-- a query that scales by an item under a FOR over nothing
abbrev pub idle : (item : ℕ) → List (Call (Upto 1000000))
idle i = run 0 (asked (0x2B ∷ 0x20 ∷ 0x25 ∷ 0 ∷ i ∷ 0x22 ∷ 0 ∷ [])) (count 1 ∷ []) 9 small_work ∷ []

abbrev pub examples : List Bool
examples =
    -- counts 1, 2, 3: the query gives label 2 at 5 in 3 steps, a budget that suffices; then 6 trees, 5 entries
    holds counting 1 (leaf 2 (count 5) empty) 3 6 5 (ending counting (asking in_counts 3))
    -- a budget of 2 does not
    ∷ refused_by 12 0 (ending counting (asking in_counts 2))
    -- clearances public, secret, confidential: the query gives label 2 at confidential
    ∷ holds (ranks 4) 1 (leaf 2 (held 4 3) empty) 3 6 5 (ending (ranks 4) (asking in_clearances 3))
    -- the same mapped to yes from public up: the empty forest; 5 trees, 2 entries
    ∷ holds flags 1 empty 3 5 2 (ending flags (mapped_use (ranks 4) small public_only (λ n. small_work) (asking in_clearances 3)))
    -- equal siblings at 2 and 3 are label 2 at 5
    ∷ holds counting 0 (leaf 2 (count 5) empty) 0 3 1 (ending counting siblings)
    -- label 2 at 2 becomes label 2 at 4, in 5 steps
    ∷ holds counting 1 (leaf 2 (count 4) empty) 5 4 2 (ending counting doubling)
    -- with 16 trees, 14 leaves at one load, the document and the empty document beside them; 15 do not
    ∷ holds counting 0 (ones 14) 0 16 14 (ending counting (loading_leaves 14))
    ∷ refused_by 12 0 (ending counting (loading_leaves 15))
    -- the item zero: the empty forest in 3 steps, and 2 trees
    ∷ holds counting 1 empty 3 2 0 (ending counting (scaling (count 0 ∷ [])))
    -- the item one: label 4 at one, and 3 trees
    ∷ holds counting 1 (leaf 4 (count 1) empty) 3 3 1 (ending counting (scaling (count 1 ∷ [])))
    -- a pair of trees that the right half does not tell apart, before the map: two trees of label 3, over different leaves
    ∷ holds pairing 0
    (entry (tree 3 (leaf 2 (true, count 1) empty)) (true, count 1) (entry (tree 3 (leaf 2 (false, count 1) empty)) (true, count 1) empty))
    0 5 4 (ending pairing pairing_up)
    -- mapped: one tree of label 3 at 2
    ∷ holds counting 0 (entry (tree 3 (leaf 2 (count 1) empty)) (count 2) empty) 0 4 2
    (ending counting (mapped_use pairing small right_half (λ n. small_work) pairing_up))
    -- CHILD of the family: label 2 at 2 and label 3 at 3, in 2 steps
    ∷ holds counting 1 (leaf 2 (count 2) (entry three (count 3) empty)) 2 6 6 (ending counting (asking_for (0x28 ∷ 0x21 ∷ 0 ∷ [])))
    -- LET the family be a variable, and that UNION itself: the family at 2; the family is evaluated once, 5 steps in all
    ∷ holds counting 1 (entry (tree 1 (leaf 2 (count 2) (entry three (count 3) empty))) (count 2) empty) 5 6 5
    (ending counting (asking_for (0x2C ∷ 0x21 ∷ 0 ∷ 0x24 ∷ 0x23 ∷ 0 ∷ 0x23 ∷ 0 ∷ [])))
    -- FOR each child IFNAME it is label 2 the child, else NONE: label 2 at 2; 3 steps and 2 for each of two children
    ∷ holds counting 1 (leaf 2 (count 2) empty) 7 6 5 (ending counting (asking_for (0x2B ∷ 0x28 ∷ 0x21 ∷ 0 ∷ 0x2D ∷ 0 ∷ 0 ∷ 2 ∷ 0x22 ∷ 0 ∷ 0x20 ∷ [])))
    -- FOR each tree below and FOR each child of the root, if they are ALIKE the tree: label 2 at 5 times 2, label 3 at 3 times 3
    ∷ holds counting 1 (leaf 2 (count 10) (entry three (count 9) empty)) 24 6 6
    (ending counting (asking_for (0x2B ∷ 0x29 ∷ 0x21 ∷ 0 ∷ 0x2B ∷ 0x28 ∷ 0x21 ∷ 0 ∷ 0x2E ∷ 0 ∷ 1 ∷ 0x22 ∷ 0 ∷ 0x20 ∷ [])))
    -- FOR each tree a NAMED one over its children: the family again, which is known already, so the stock stays
    ∷ holds counting 1 (entry (tree 1 (leaf 2 (count 2) (entry three (count 3) empty))) (count 1) empty) 5 5 4
    (ending counting (asking_for (0x2B ∷ 0x21 ∷ 0 ∷ 0x27 ∷ 0 ∷ 0x28 ∷ 0x22 ∷ 0 ∷ [])))
    -- a product that is zero: the empty forest, and FOR has evaluated its body all the same, 4 steps
    ∷ holds pairing 1 empty 4 3 1 (ending pairing cancelling)
    -- ill-sized tables, a slot above 15, too little working memory: each is found before what follows it here
    ∷ refused_by 1 0 (outcome counting (record { trees = 15; entries = 16 }) new_state (load 16 (0x1F ∷ 0x1F ∷ []) [] 0))
    ∷ refused_by 1 0 (outcome counting (record { trees = 1024; entries = 8193 }) new_state clear)
    ∷ refused_by 2 0 (outcome counting small new_state (load 16 (0x1F ∷ 0x1F ∷ []) [] 0))
    ∷ refused_by 3 0 (outcome counting small new_state (load 15 (0x1F ∷ 0x1F ∷ []) [] 527))
    ∷ refused_by 11 1 (outcome counting small new_state (load 15 (0x1F ∷ 0x1F ∷ []) [] 528))
    -- a carry from ill-sized tables, and from a slot that is not there
    ∷ refused_by 1 0 (outcome counting small new_state (carry 16 (record { limits = record { trees = 16; entries = 15 }; slot = 0; document = empty }) 528))
    ∷ refused_by 2 0 (outcome counting small new_state (carry 0 (record { limits = small; slot = 16; document = empty }) 0))
    -- a document of over 65,536 bytes, a query of over 1,024
    ∷ refused_by 11 1 (read_document (replicate 65536 0x1F) 0)
    ∷ refused_by 4 0 (read_document (replicate 65537 0x1F) 0)
    ∷ refused_by 11 1 (read_query (replicate 1024 0x20))
    ∷ refused_by 4 0 (read_query (replicate 1025 0x20))
    -- a command whose operands are cut, and one that is missing
    ∷ refused_by 5 0 (read_query (0x2A ∷ 0 ∷ []))
    ∷ refused_by 5 3 (read_query (0x2A ∷ 0 ∷ 2 ∷ []))
    ∷ refused_by 5 0 (read_document [] 0)
    -- a CLOSE with nothing open, END with a tree open, unknown bytes
    ∷ refused_by 6 0 (read_document (0x11 ∷ []) 0)
    ∷ refused_by 6 5 (read_document (0x10 ∷ 0 ∷ 1 ∷ 0 ∷ 0 ∷ 0x1F ∷ []) 1)
    ∷ refused_by 6 0 (read_document (0x20 ∷ []) 0)
    ∷ refused_by 6 1 (read_query (0x28 ∷ 0x2F ∷ []))
    -- label 0, which OPEN tests before its item, and an item that is not in the list
    ∷ refused_by 7 0 (read_document (0x10 ∷ 0 ∷ 0 ∷ 0 ∷ 9 ∷ 0x11 ∷ 0x1F ∷ []) 0)
    ∷ refused_by 8 0 (read_document (0x10 ∷ 0 ∷ 1 ∷ 0 ∷ 9 ∷ 0x11 ∷ 0x1F ∷ []) 9)
    ∷ refused_by 7 1 (read_query (0x28 ∷ 0x26 ∷ 0 ∷ 0 ∷ 0x20 ∷ []))
    -- a SCALE is tested though it would never be evaluated
    ∷ refused_by 8 2 (ending counting (idle 1))
    ∷ holds counting 0 empty 2 1 0 (ending counting (idle 0))
    -- a 33rd open tree, a command enclosed by 17, a ninth binder
    ∷ refused_by 9 160 (read_document (repeated 33 (0x10 ∷ 0 ∷ 1 ∷ 0 ∷ 0 ∷ [])) 1)
    ∷ refused_by 9 17 (read_query (repeated 17 (0x28 ∷ []) ++ (0x20 ∷ [])))
    ∷ refused_by 9 16 (read_query (repeated 9 (0x2B ∷ 0x20 ∷ []) ++ (0x20 ∷ [])))
    -- a slot of a query, a variable that is not bound, one of the other sort
    ∷ refused_by 2 1 (read_query (0x28 ∷ 0x21 ∷ 16 ∷ []))
    ∷ refused_by 10 0 (read_query (0x22 ∷ 0 ∷ []))
    ∷ refused_by 10 2 (read_query (0x2C ∷ 0x20 ∷ 0x22 ∷ 0 ∷ []))
    -- IFNAME tests its variable before its label
    ∷ refused_by 10 2 (read_query (0x2B ∷ 0x20 ∷ 0x2D ∷ 1 ∷ 0 ∷ 0 ∷ 0x20 ∷ 0x20 ∷ []))
    ∷ refused_by 7 2 (read_query (0x2B ∷ 0x20 ∷ 0x2D ∷ 0 ∷ 0 ∷ 0 ∷ 0x20 ∷ 0x20 ∷ []))
    -- bytes after the end
    ∷ refused_by 11 1 (read_document (0x1F ∷ 0x1F ∷ []) 0)
    ∷ refused_by 11 1 (read_query (0x20 ∷ 0x20 ∷ []))
    ∷ []
