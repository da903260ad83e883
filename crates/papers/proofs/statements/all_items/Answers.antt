use Rattle.std.proofs.Common.{[], ◌++◌, sym, ap, ◌∙◌, append_assoc, append-nil, rules}
use Rattle.text.specs.Lines.{point}
use Rattle.papers.specs.Papers.{ItemsLine, none}
use Rattle.papers.proofs.Rows.{line_shorter, lines_on, all_items_lem}
use Rattle.papers.proofs.Whole.{mistaken, broke_off, handed_on, rest_on, no_other, no_annotations, no_items, no_first_row, no_later_row}
use Rattle.papers.proofs.statements.all_items.Goals as goal

-- the line that a turn of the loop reads
turn : (c : goal.In_ok-annotations-2) → ItemsLine (point c.loop-word.reader) c.in_ok-annotations-2.ensures.0 (point c.annotations-in-Some.new.reader)
turn c = (
  point c.first_word.new.self,
  (c.in-Some.word, c.in-Some.ensures, search rules),
  c.in_ok-annotations-2.ensures.2,
)

pub returns-in_err-begin : goal.returns-in_err-begin
returns-in_err-begin c = broke_off _ _ _ c.from_residual.ensures.0 (no_items c.in_err-begin.ensures)

pub returns-in_err-annotations : goal.returns-in_err-annotations
returns-in_err-annotations c = handed_on _ _ _ _ _ c.from_residual-in_err-annotations.ensures.1 (no_first_row c.in_ok-begin.ensures) c.in_err-annotations.ensures

pub returns-then-ne : goal.returns-then-ne
returns-then-ne c =
    let new = c.in_ok-annotations.ensures in
    mistaken c.into.result _ (no_later_row (point c.begin.new.reader, c.in_ok-begin.ensures, new.2) c.loop-word.invariant.3 (no_other c.in-Some.ensures (search rules)))

pub returns-in_err-annotations-2 : goal.returns-in_err-annotations-2
returns-in_err-annotations-2 c =
    let new = c.in_ok-annotations.ensures in
    handed_on _ _ _ _ _ c.from_residual-in_err-annotations-2.ensures.1 (λ h. no_later_row (point c.begin.new.reader, c.in_ok-begin.ensures, new.2) c.loop-word.invariant.3 (no_annotations (c.in-Some.word, c.in-Some.ensures, search rules) h)) c.in_err-annotations-2.ensures

pub loop-word-init : goal.loop-word-init
loop-word-init c = ([], sym (append-nil _), none, λ h. h)

pub loop-word-smaller : goal.loop-word-smaller
loop-word-smaller c = line_shorter (turn c)

pub loop-word-preserved : goal.loop-word-preserved
loop-word-preserved c =
    let old = c.loop-word.invariant in
    let new = c.in_ok-annotations-2.ensures in
    (old.0 ++ new.0, new.1 ∙ ap (λ l. l ++ new.0) old.1 ∙ append_assoc _ old.0 new.0, lines_on old.2 (turn c), λ h. rest_on (turn c) (old.3 h))

pub returns : goal.returns
returns c =
    let old = c.loop-word.invariant in
    let new = c.in_ok-annotations.ensures in
    let from_none = new.1 ∙ ap (λ l. l ++ new.0) c.new-items.ensures.items in
    all_items_lem (point c.begin.new.reader, c.in_ok-begin.ensures, new.2) old.2 c.in_default.ensures (old.1 ∙ ap (λ l. l ++ old.0) from_none)
