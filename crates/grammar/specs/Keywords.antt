-- The words of kinds and maps.
use Rattle.std.specs.Prelude.{ℕ, List, ◌++◌, codes}
use Rattle.grammar.specs.declared.names.SimpleKind.{SimpleKind}
use Rattle.grammar.specs.declared.names.SimpleKind.TheVariants.{Flag, Count, Clearance, Condition}
use Rattle.grammar.specs.declared.names.KindName.{KindName}
use Rattle.grammar.specs.declared.names.KindName.TheVariants.{Simple, Pair}
use Rattle.grammar.specs.declared.names.MapWord.{MapWord}
use Rattle.grammar.specs.declared.names.MapWord.TheVariants.{Present, Cleared, Under, Left, Right}

-- the word of a simple kind
abbrev pub kind_bytes : SimpleKind → List ℕ
kind_bytes Flag = codes "flag"
kind_bytes Count = codes "count"
kind_bytes Clearance = codes "clearance"
kind_bytes Condition = codes "condition"

-- a kind as a paper writes it
abbrev pub kind_words : KindName → List ℕ
kind_words (Simple k) = kind_bytes k
kind_words (Pair l r) = codes "pair " ++ (kind_bytes l ++ (codes " " ++ kind_bytes r))

-- the first word of a map
abbrev pub map_bytes : MapWord → List ℕ
map_bytes Present = codes "present"
map_bytes Cleared = codes "cleared"
map_bytes Under = codes "under"
map_bytes Left = codes "left"
map_bytes Right = codes "right"
