-- Words, lines and places of a text.
use Rattle.std.specs.Prelude.{◌≡◌, ℕ, ◌+◌, ◌-◌, ◌^◌, ◌<◌, min, Bool, true, false, cond, not, ◌&&◌, ◌||◌, List, ◌∷◌, ◌++◌, length, ◌==◌, slice_index}
use Rattle.text.specs.declared.words.Place.{Place}
use Rattle.text.specs.declared.words.Word.{Word}
use Rattle.text.specs.declared.words.Reader.{Reader}

-- a space, a tab or a carriage return (so a line may end in CR LF)
abbrev pub blank : ℕ → Bool
blank b = b == 32 || (b == 9 || b == 13)

-- a byte that may stand in a word: neither a blank nor '#' nor a line feed
abbrev pub inside : ℕ → Bool
inside b = not (blank b) && (not (b == 35) && not (b == 10))

-- each of the first n bytes passes the test
abbrev pub AllAre : (ℕ → Bool) → List ℕ → ℕ → Type 0
AllAre test bs n = (k : ℕ) → k < n → test (slice_index bs k) ≡ true

-- the bytes end at n, or the one at n fails the test
abbrev pub Stops : (ℕ → Bool) → List ℕ → ℕ → Type 0
Stops test bs n = n < length bs → test (slice_index bs n) ≡ false

-- the place n columns further on; the largest number stands for all beyond
abbrev pub onward : Place → ℕ → Place
onward p n = record { line = p.line; column = min (p.column + n) (2 ^ 64 - 1) }

-- the start of the next line; the largest number stands for all beyond
abbrev pub place_below : Place → Place
place_below p = record { line = min (p.line + 1) (2 ^ 64 - 1); column = 1 }

-- a byte of a line: any but a line feed
abbrev pub in_line : ℕ → Bool
in_line b = not (b == 10)

-- each byte passes the test
abbrev pub All : (ℕ → Bool) → List ℕ → Type 0
All test bs = AllAre test bs (length bs)

-- the bytes of a word
abbrev pub word_bytes : Word → List ℕ
word_bytes w = w.text.now

-- a point of a text: what is left of it, and the place where that begins
pub record Point : Type 0 where
  pub left : List ℕ
  pub place : Place

-- where a reader is
abbrev pub point : Reader → Point
point r = record { left = r.rest.now; place = r.place }

-- line 1, column 1
abbrev pub first_place : Place
first_place = record { line = 1; column = 1 }

-- the start of a text
abbrev pub top : List ℕ → Point
top bs = record { left = bs; place = first_place }

-- after p come blanks alone and then the word w, and q is the point after it;
-- the word is not empty, has no byte that may not stand in a word, and cannot be longer
pub record WordNext (p : Point) (w : Word) (q : Point) : Type 0 where
  pub gap : List ℕ
  pub cut : p.left ≡ gap ++ (word_bytes w ++ q.left)
  pub blanks : All blank gap
  pub some : 0 < length (word_bytes w)
  pub solid : All inside (word_bytes w)
  pub longest : Stops inside q.left 0
  pub here : w.place ≡ onward p.place (length gap)
  pub after : q.place ≡ onward w.place (length (word_bytes w))

-- after p come blanks alone and then a line feed, a comment or the end of the text
pub record NoWord (p : Point) : Type 0 where
  pub gap : List ℕ
  pub others : List ℕ
  pub cut : p.left ≡ gap ++ others
  pub blanks : All blank gap
  pub ends : Stops blank others 0
  pub none : Stops inside others 0

-- q is the start of the line after that of p
pub record LineNext (p q : Point) : Type 0 where
  pub line : List ℕ
  pub cut : p.left ≡ line ++ (10 ∷ q.left)
  pub one : All in_line line
  pub below : q.place ≡ place_below p.place

-- no line feed is left
abbrev pub LastLine : Point → Type 0
LastLine p = All in_line p.left

-- from p to q lie only lines in which no word is left
pub data Skips : Point → Point → Type 0 where
  stay : {p : Point} → Skips p p
  line : {p q r : Point} → NoWord p → LineNext p q → Skips q r → Skips p r

-- w is the first word from p on, and r is the point after it
abbrev pub WordBelow : Point → Word → Point → Type 0
WordBelow p w r = (q : Point) × Skips p q × WordNext q w r

-- no word is left from p on, and q is in the last line
abbrev pub NoMore : Point → Point → Type 0
NoMore p q = Skips p q × NoWord q × LastLine q

-- for a point in the last line, the start of the line after it;
-- the empty line after a final line feed counts as that line itself
abbrev pub end_place : Point → Place
end_place p = cond (length p.left == 0 && p.place.column == 1) p.place (place_below p.place)
