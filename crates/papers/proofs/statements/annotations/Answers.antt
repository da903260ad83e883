use Rattle.std.proofs.Common.{[], ◌∷◌, ◌++◌, sym, ap, ◌∙◌, append_assoc, append-nil, rules}
use Rattle.text.specs.Lines.{point}
use Rattle.papers.specs.Papers.{none}
use Rattle.papers.proofs.Rows.{row_on, row_ends}
use Rattle.papers.proofs.Whole.{no_row}
use Rattle.papers.proofs.statements.annotations.Goals as goal

pub returns-in_err-first : goal.returns-in_err-first
returns-in_err-first c = search (rules, no_row)

pub loop-word-init : goal.loop-word-init
loop-word-init c = ([], sym (append-nil _), none)

pub loop-word-preserved : goal.loop-word-preserved
loop-word-preserved c =
    let old = c.loop-word.invariant in
    let last = c.in-Some.word ∷ [] in
    let added = c.in_ok-push-2.ensures.items in
    (old.0 ++ last, added ∙ ap (λ l. l ++ last) old.1 ∙ append_assoc _ old.0 last, row_on old.2 c.in-Some.ensures)

pub returns : goal.returns
returns c =
    let old = c.loop-word.invariant in
    let first = c.in_ok-first.first in
    let ended = c.in_default.ensures in
    let added = c.in_ok-push.ensures.items in
    (first ∷ old.0, old.1 ∙ ap (λ l. l ++ old.0) added ∙ append_assoc _ (first ∷ []) old.0, row_ends c.in_ok-first.ensures old.2 ended.0 (ap point ended.1))
