-- What no paper says: items that are missing, and a first line that another paper has.
use Rattle.std.proofs.Common.{◌≡◌, ℕ, ◌<◌, true, List, length, is_err, IsErrAnd, codes, Result, sym, refl, ◌∙◌, subst, arith, rules, MatchResult}
use Rattle.std.proofs.lemmas.Result.{MatchResult-from_err, err_from_is_err_and}
use Rattle.papers.specs.declared.statements.Failure.{Failure}
use Rattle.papers.specs.declared.statements.Paper.{Paper}
use Rattle.text.specs.declared.words.Word.{Word}
use Rattle.grammar.specs.declared.names.KindName.{KindName}
use Rattle.grammar.specs.declared.names.MapName.{MapName}
use Rattle.text.specs.Lines.{Point, top, word_bytes, WordNext, WordBelow, NoWord, NoMore}
use Rattle.papers.specs.Papers.{Mistaken, Begins, KindLine, MapLine, MapLineFits, Row, WholeRow, ItemsLine, ItemsLines, AllItems, IsPaper, none, more}
use Rattle.papers.proofs.Refusals.{one_begin, one_kind, one_map}
use Rattle.text.proofs.Single.{one_word, not_both, one_first, not_first}

pub mistaken : (e : Failure) (P : Type 0) → P → Mistaken e P
mistaken = search rules

mistaken_on : (e : Failure) (P Q : Type 0) → (P → Q) → Mistaken e P → Mistaken e Q
mistaken_on = search rules

-- the exit of a `?`
pub broke_off : {X : Type 0} (r : Result X Failure) (P : X → Type 0) (Q : Type 0) → is_err r ≡ true → Q → MatchResult r P (λ e. Mistaken e Q)
broke_off r P Q is h = MatchResult-from_err r P (λ e. Mistaken e Q) is (λ e. mistaken e Q h)

-- the exit of a `?` that hands a failure on
pub handed_on : {X : Type 0} (r : Result X Failure) (e : Failure) (P : X → Type 0) (Q R : Type 0) → IsErrAnd r (λ y. y ≡ e) → (Q → R) → Mistaken e Q → MatchResult r P (λ y. Mistaken y R)
handed_on r e P Q R by f h =
    let p = err_from_is_err_and r by in
    subst (λ t. MatchResult t P (λ y. Mistaken y R)) (sym p.1) (subst (λ y. Mistaken y R) (sym p.2) (mistaken_on e Q R f h))

row_first : {p q : Point} {ws : List Word} → Row p ws q → 0 < length ws → (w : Word) × (s : Point) × WordNext p w s
row_first none lt = absurd (omega arith)
row_first (more {q = q} {w = w} next others) lt = (w, q, next)

one_row : {p q r : Point} {ws vs : List Word} → Row p ws q → NoWord q → Row p vs r → NoWord r → q ≡ r
one_row none x none y = refl
one_row none x (more next others) y = absurd (not_both x next)
one_row (more next others) x none y = absurd (not_both y next)
one_row {r = r} (more next others) x (more {ws = vs} next' others') y = one_row others x (rw (one_word next' next).1 at others') y

pub no_row : {p : Point} → ((w : Word) (s : Point) → WordNext p w s → ⊥) → (ws : List Word) (q : Point) → WholeRow p ws q → ⊥
no_row h ws q row = let first = row_first row.0 row.1 in h first.0 first.1 first.2

one_items : {p q r : Point} {ws vs : List Word} → ItemsLine p ws q → ItemsLine p vs r → q ≡ r
one_items {r = r} {vs = vs} a b =
    let row = rw (← (one_begin _ a.1 b.1)) at b.2 in
    one_row a.2.0 a.2.2 row.0 row.2

-- lines of items are left, or nothing
abbrev pub Rest : Point → Type 0
Rest p = (ws : List Word) × (s : Point) × (q : Point) × ItemsLines p ws s × NoMore s q

pub rest_on : {p q : Point} {vs : List Word} → ItemsLine p vs q → Rest p → Rest q
rest_on first (ws, s, q, none, end) = absurd (not_first end first.1.1)
rest_on first (ws, s, q, more {ws = us} line others, end) = (us, s, q, rw (one_items line first) at others, end)

pub from_all : {p : Point} {ws : List Word} {q : Point} → AllItems p ws q → Rest p
from_all {ws = ws} {q = q} h = (ws, h.0, q, h.1, h.3)

pub no_other : {p r : Point} {w : Word} → WordBelow p w r → (word_bytes w ≡ codes "items" → ⊥) → Rest p → ⊥
no_other below other (ws, s, q, none, end) = not_first end below
no_other below other (ws, s, q, more line others, end) = other ((one_first below line.1.1).0 ∙ line.1.2)

pub no_annotations : {p r : Point} → Begins p (codes "items") r → ((ws : List Word) (q : Point) → WholeRow r ws q → ⊥) → Rest p → ⊥
no_annotations begins h (ws, s, q, none, end) = not_first end begins.1
no_annotations begins h (ws, s, q, more {q = t} {vs = vs} line others, end) = h vs t (rw (← (one_begin _ begins line.1)) at line.2)

lines_begin : {p q : Point} {ws : List Word} → ItemsLines p ws q → 0 < length ws → (r : Point) × Begins p (codes "items") r
lines_begin none lt = absurd (omega arith)
lines_begin (more line others) lt = (line.0, line.1)

pub no_items : {p : Point} → ((x : Unit {0}) (s : Point) → Begins p (codes "items") s → ⊥) → (ws : List Word) (q : Point) → AllItems p ws q → ⊥
no_items h ws q all = let b = lines_begin all.1 all.2 in h tt b.0 b.1

pub no_first_row : {p r : Point} → Begins p (codes "items") r → ((ws : List Word) (q : Point) → WholeRow r ws q → ⊥) → (ws : List Word) (q : Point) → AllItems p ws q → ⊥
no_first_row begins h ws q all = no_annotations begins h (from_all {ws = ws} {q = q} all)

pub no_later_row : {p q r : Point} {vs : List Word} → ItemsLine p vs q → (Rest q → Rest r) → (Rest r → ⊥) → (ws : List Word) (t : Point) → AllItems p ws t → ⊥
no_later_row first keeps h ws t all = h (keeps (rest_on first (from_all {ws = ws} {q = t} all)))

-- a point has one line of a kind, and one end of a line of a map
one_kind_line : {p q r : Point} (a b : KindName) → KindLine p a q → KindLine p b r → (a ≡ b) × (q ≡ r)
one_kind_line {q = q} {r} a b s t = one_kind s.0 q r a b s.2 (rw (← one_begin _ s.1 t.1) at t.2)

one_map_line : {p q r : Point} (a b : MapName) → MapLine p a q → MapLine p b r → q ≡ r
one_map_line {q = q} {r} a b s t = one_map s.0 q r a b s.2 (rw (← one_begin _ s.1 t.1) at t.2)

module _ (bs : List ℕ) where
  pub no_first_line : ((k : KindName) (q : Point) → KindLine (top bs) k q → ⊥) → (p : Paper) → IsPaper bs p → ⊥
  no_first_line h p is = h p.kind is.after_kind is.kind

  pub no_second_line : (k : KindName) (q : Point) → KindLine (top bs) k q → ((m : MapName) (r : Point) → MapLineFits k q m r → ⊥) → (p : Paper) → IsPaper bs p → ⊥
  no_second_line k q line h p is =
      let o = one_kind_line k p.kind line is.kind in
      let at = rw (← o.1) at is.map in
      h p.map is.after_map (subst (λ j. MapLineFits j q p.map is.after_map) (sym o.0) (at.0, at.1, (at.2, is.starts, is.sized), at.3))

  pub no_others : (k : KindName) (m : MapName) (q r : Point) → KindLine (top bs) k q → MapLine q m r → ((ws : List Word) (s : Point) → AllItems r ws s → ⊥) → (p : Paper) → IsPaper bs p → ⊥
  no_others k m q r line map h p is =
      let o = one_kind_line k p.kind line is.kind in
      let at = rw (← o.1) at is.map in
      h _ is.last (rw (← one_map_line m p.map map at) at is.items)
