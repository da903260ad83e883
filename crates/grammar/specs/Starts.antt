-- Where maps start, and the numbers that they may have.
use Rattle.std.specs.Prelude.{◌≡◌, ◌≤◌, Some, None, Option}
use Rattle.grammar.specs.declared.names.SimpleKind.{SimpleKind}
use Rattle.grammar.specs.declared.names.SimpleKind.TheVariants.{Count, Clearance, Condition}
use Rattle.grammar.specs.declared.names.KindName.{KindName}
use Rattle.grammar.specs.declared.names.KindName.TheVariants.{Simple, Pair}
use Rattle.grammar.specs.declared.names.SimpleMap.{SimpleMap}
use Rattle.grammar.specs.declared.names.SimpleMap.TheVariants.{Present, Cleared, Under}
use Rattle.grammar.specs.declared.names.MapWord.{MapWord}
use Rattle.grammar.specs.declared.names.MapName.{MapName}
use Rattle.grammar.specs.declared.names.MapName.TheVariants.{Direct, Left, Right}

-- the kind that a map from a simple kind starts at
abbrev pub start_of : SimpleMap → SimpleKind
start_of Present = Count
start_of (Cleared c) = Clearance
start_of (Under b) = Condition

-- the simple kind that a map starts at by its first word, and none where it starts at any pair
abbrev pub word_start : MapWord → Option SimpleKind
word_start MapWord.Present = Some Count
word_start MapWord.Cleared = Some Clearance
word_start MapWord.Under = Some Condition
word_start MapWord.Left = None
word_start MapWord.Right = None

-- a half is taken of any pair, and what is done then starts at that half
abbrev pub Starts : MapName → KindName → Type 0
Starts (Direct m) k = k ≡ Simple (start_of m)
Starts (Left None) k = (l : SimpleKind) × (r : SimpleKind) × (k ≡ Pair l r)
Starts (Right None) k = (l : SimpleKind) × (r : SimpleKind) × (k ≡ Pair l r)
Starts (Left (Some m)) k = (r : SimpleKind) × (k ≡ Pair (start_of m) r)
Starts (Right (Some m)) k = (l : SimpleKind) × (k ≡ Pair l (start_of m))

-- a clearance is from 1 to 4, and a condition at most 63
abbrev pub Sized : SimpleMap → Type 0
Sized Present = Unit {0}
Sized (Cleared c) = (1 ≤ c) × (c ≤ 4)
Sized (Under b) = b ≤ 63

-- the same of the map of a half, if any
abbrev pub SizedThen : Option SimpleMap → Type 0
SizedThen None = Unit {0}
SizedThen (Some m) = Sized m

-- the same of any map
abbrev pub SizedMap : MapName → Type 0
SizedMap (Direct m) = Sized m
SizedMap (Left then) = SizedThen then
SizedMap (Right then) = SizedThen then

-- the map of a half, if any, starts at the half k and has its number within its bounds
abbrev pub Fits : Option SimpleMap → SimpleKind → Type 0
Fits None k = Unit {0}
Fits (Some m) k = (start_of m ≡ k) × Sized m
