-- Words one after the other: what is left of the text gets shorter.
use Rattle.std.proofs.Common.{◌≡◌, ◌<◌, ◌≤◌, List, [], ◌∷◌, ◌++◌, length, sym, ap, ◌∙◌, subst, append_assoc, append-nil, arith, length-append}
use Rattle.text.specs.declared.words.Word.{Word}
use Rattle.text.specs.Lines.{Point, word_bytes, NoWord, NoMore, WordNext, WordBelow, Skips, stay, line}
use Rattle.papers.specs.Papers.{Row, WholeRow, ItemsLine, ItemsLines, AllItems, none, more}
use Rattle.text.proofs.Cuts.{below_shorter}

pub word_shorter : {p q : Point} {w : Word} → WordNext p w q → length q.left < length p.left
word_shorter {p} {q} {w} h = omega (arith, h.some, ap length h.cut ∙ length-append h.gap (word_bytes w ++ q.left), length-append (word_bytes w) q.left)

skips_shorter : {p q : Point} → Skips p q → length q.left ≤ length p.left
skips_shorter stay = omega arith
skips_shorter {p} (line {q = q} empty next others) = omega (arith, skips_shorter others, below_shorter next)

first_shorter : {p q : Point} {w : Word} → WordBelow p w q → length q.left < length p.left
first_shorter h = omega (arith, skips_shorter h.1, word_shorter h.2)

row_shorter : {p q : Point} {ws : List Word} → Row p ws q → length q.left ≤ length p.left
row_shorter none = omega arith
row_shorter (more next others) = omega (arith, row_shorter others, word_shorter next)

pub line_shorter : {p q : Point} {ws : List Word} → ItemsLine p ws q → length q.left < length p.left
line_shorter h = omega (arith, first_shorter h.1.1, row_shorter h.2.0)

pub row_on : {p q r : Point} {ws : List Word} {w : Word} → Row p ws q → WordNext q w r → Row p (ws ++ (w ∷ [])) r
row_on none next = more next none
row_on (more first others) next = more first (row_on others next)

pub row_ends : {p q r s : Point} {w : Word} {ws : List Word} → WordNext p w q → Row q ws r → NoWord r → s ≡ r → WholeRow p (w ∷ ws) s
row_ends {p} {w = w} {ws = ws} first row empty same = subst (WholeRow p (w ∷ ws)) (sym same) (more first row, omega arith, empty)

pub lines_on : {p q r : Point} {ws vs : List Word} → ItemsLines p ws q → ItemsLine q vs r → ItemsLines p (ws ++ vs) r
lines_on {p} {r = r} {vs = vs} none next = subst (λ l. ItemsLines p l r) (append-nil vs) (more next none)
lines_on {p} {r = r} {vs = us} (more {vs = vs} {ws = ws} first others) next = subst (λ l. ItemsLines p l r) (sym (append_assoc vs ws us)) (more first (lines_on others next))

pub all_items_lem : {p q r s : Point} {vs ws all : List Word} → ItemsLine p vs q → ItemsLines q ws r → NoMore r s → all ≡ vs ++ ws → AllItems p all s
all_items_lem {p} {r = r} {vs = vs} {ws = ws} first others ended is = (
  r,
  subst (λ l. ItemsLines p l r) (sym is) (more first others),
  omega (arith, first.2.1, ap length is, length-append vs ws),
  ended,
)
