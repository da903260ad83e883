-- What the lines of a paper say, by the points before and after their words.
use Rattle.std.specs.Prelude.{◌≡◌, ℕ, ◌<◌, ◌≤◌, List, [], ◌∷◌, ◌++◌, length, Some, None, vec_items, codes, Option, Result, MatchResult}
use Rattle.papers.specs.declared.statements.Failure.{Failure}
use Rattle.papers.specs.declared.statements.Failure.TheVariants.{Mistake, NoMemory}
use Rattle.papers.specs.declared.statements.Paper.{Paper}
use Rattle.text.specs.declared.words.Word.{Word}
use Rattle.grammar.specs.declared.names.SimpleKind.{SimpleKind}
use Rattle.grammar.specs.declared.names.KindName.{KindName}
use Rattle.grammar.specs.declared.names.KindName.TheVariants.{Simple, Pair}
use Rattle.grammar.specs.declared.names.SimpleMap.{SimpleMap}
use Rattle.grammar.specs.declared.names.SimpleMap.TheVariants.{Present, Cleared, Under}
use Rattle.grammar.specs.declared.names.MapName.{MapName}
use Rattle.grammar.specs.declared.names.MapName.TheVariants.{Direct, Left, Right}
use Rattle.text.specs.Lines.{Point, top, word_bytes, WordNext, WordBelow, NoWord, NoMore}
use Rattle.grammar.specs.Keywords.{kind_bytes}
use Rattle.text.specs.Numerals.{Writes, value_of}
use Rattle.grammar.specs.Starts.{start_of, Starts, Sized, SizedMap, Fits}

-- r is Ok x with R x q, or an error, and then R holds of no x and no point
abbrev pub Told : {X E : Type 0} → Result X E → Point → (X → Point → Type 0) → Type 0
Told {X} r q R = MatchResult r (λ x. R x q) (λ _. (x : X) (s : Point) → R x s → ⊥)

-- P holds where the failure is a mistake; a want of memory says nothing
abbrev pub Mistaken : Failure → Type 0 → Type 0
Mistaken (Mistake m) P = P
Mistaken NoMemory P = Unit {0}

-- the next word of the line has the bytes bs
abbrev pub Says : Point → List ℕ → Point → Type 0
Says r bs s = (w : Word) × WordNext r w s × (word_bytes w ≡ bs)

-- the next line that has words begins with the word bs
abbrev pub Begins : Point → List ℕ → Point → Type 0
Begins r bs s = (w : Word) × WordBelow r w s × (word_bytes w ≡ bs)

-- the next word of the line writes the number n
abbrev pub WritesNext : Point → ℕ → Point → Type 0
WritesNext r n s = (w : Word) × WordNext r w s × Writes (word_bytes w) × (value_of (word_bytes w) ≡ n)

-- the next word of the line writes the number n, from low to high
abbrev pub WithinNext : ℕ → ℕ → Point → ℕ → Point → Type 0
WithinNext low high r n s = WritesNext r n s × (low ≤ n) × (n ≤ high)

-- the next words of the line name the kind
abbrev pub KindNext : Point → KindName → Point → Type 0
KindNext r (Simple k) s = Says r (kind_bytes k) s
KindNext r (Pair a b) s = (p : Point) × (q : Point) × Says r (codes "pair") p × Says p (kind_bytes a) q × Says q (kind_bytes b) s

-- the map m is the word w and the words from r to s
abbrev pub SimpleAfter : Word → Point → SimpleMap → Point → Type 0
SimpleAfter w r Present s = (word_bytes w ≡ codes "present") × (s ≡ r)
SimpleAfter w r (Cleared c) s = (word_bytes w ≡ codes "cleared") × WritesNext r c s
SimpleAfter w r (Under b) s = (word_bytes w ≡ codes "under") × WritesNext r b s

-- the same of a map that starts at the kind k and has its numbers within their bounds
abbrev pub SimpleFits : Word → SimpleKind → Point → SimpleMap → Point → Type 0
SimpleFits w k r m s = SimpleAfter w r m s × (start_of m ≡ k) × Sized m

-- the next words of the line are the map m
abbrev pub SimpleNext : Point → SimpleMap → Point → Type 0
SimpleNext r m s = (w : Word) × (q : Point) × WordNext r w q × SimpleAfter w q m s

-- the line ends, or goes on with `then` and the map
abbrev pub ThenNext : Point → Option SimpleMap → Point → Type 0
ThenNext r None s = NoWord r × (s ≡ r)
ThenNext r (Some m) s = (q : Point) × Says r (codes "then") q × SimpleNext q m s

-- the same of a map that starts at the half k and has its numbers within their bounds
abbrev pub ThenFits : SimpleKind → Point → Option SimpleMap → Point → Type 0
ThenFits k r o s = ThenNext r o s × Fits o k

-- the next words of the line are the map m
abbrev pub MapNext : Point → MapName → Point → Type 0
MapNext r (Direct m) s = SimpleNext r m s
MapNext r (Left o) s = (q : Point) × Says r (codes "left") q × ThenNext q o s
MapNext r (Right o) s = (q : Point) × Says r (codes "right") q × ThenNext q o s

-- the same of a map that starts at the kind k and has its numbers within their bounds
abbrev pub MapFits : KindName → Point → MapName → Point → Type 0
MapFits k r m s = MapNext r m s × Starts m k × SizedMap m

-- a line of the word bs and then x, which R reads
abbrev pub Line : {X : Type 0} → List ℕ → (Point → X → Point → Type 0) → Point → X → Point → Type 0
Line bs R r x s = (q : Point) × Begins r bs q × R q x s × NoWord s

-- a line `kind` and a kind
abbrev pub KindLine : Point → KindName → Point → Type 0
KindLine r k s = Line (codes "kind") KindNext r k s

-- a line `map` and a map
abbrev pub MapLine : Point → MapName → Point → Type 0
MapLine r m s = Line (codes "map") MapNext r m s

-- the same of a map that starts at the kind k and has its numbers within their bounds
abbrev pub MapLineFits : KindName → Point → MapName → Point → Type 0
MapLineFits k r m s = Line (codes "map") (MapFits k) r m s

-- ws are the next words of the line
pub data Row : Point → List Word → Point → Type 0 where
  none : {p : Point} → Row p [] p
  more : {p q r : Point} {w : Word} {ws : List Word} → WordNext p w q → Row q ws r → Row p (w ∷ ws) r

-- ws are all the words that are left of the line, one or more
abbrev pub WholeRow : Point → List Word → Point → Type 0
WholeRow r ws s = Row r ws s × (0 < length ws) × NoWord s

-- a line `items` and the words ws
abbrev pub ItemsLine : Point → List Word → Point → Type 0
ItemsLine r ws s = (q : Point) × Begins r (codes "items") q × WholeRow q ws s

-- ws are the words of lines of items
pub data ItemsLines : Point → List Word → Point → Type 0 where
  none : {p : Point} → ItemsLines p [] p
  more : {p q r : Point} {vs ws : List Word} → ItemsLine p vs q → ItemsLines q ws r → ItemsLines p (vs ++ ws) r

-- ws are the words of one line of items or more, and nothing is left after them
abbrev pub AllItems : Point → List Word → Point → Type 0
AllItems r ws t = (s : Point) × ItemsLines r ws s × (0 < length ws) × NoMore s t

-- the text says the paper: its lines in order, a map that starts at the kind, numbers within their bounds
pub record IsPaper (bs : List ℕ) (p : Paper) : Type 0 where
  pub after_kind : Point
  pub after_map : Point
  pub last : Point
  pub kind : KindLine (top bs) p.kind after_kind
  pub map : MapLine after_kind p.map after_map
  pub items : AllItems after_map (vec_items p.items) last
  pub starts : Starts p.map p.kind
  pub sized : SizedMap p.map
