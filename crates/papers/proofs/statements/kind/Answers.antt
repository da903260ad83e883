use Rattle.std.proofs.Common.{◌≡◌, codes, MatchOption, rules}
use Rattle.text.specs.Lines.{point, word_bytes}
use Rattle.grammar.specs.declared.names.SimpleKind.{SimpleKind}
use Rattle.grammar.specs.declared.names.KindName.TheVariants.{Simple}
use Rattle.grammar.specs.Keywords.{kind_bytes}
use Rattle.papers.proofs.Refusals.{broke, from_option, no_kind_word, no_left, no_right, no_kind}
use Rattle.papers.specs.Papers.{KindNext}
use Rattle.papers.proofs.statements.kind.Goals as goal

pub returns-in_err-word : goal.returns-in_err-word
returns-in_err-word c = search (rules, no_kind_word)

pub returns-in_err-left : goal.returns-in_err-left
returns-in_err-left c =
    let pair : word_bytes c.in_ok-word.word ≡ codes "pair" = search rules in
    broke _ _ _ c.from_residual-in_err-left.ensures.0 (no_left (_, c.in_ok-word.ensures, pair) c.in_err-left.ensures)

pub returns-in_err-right : goal.returns-in_err-right
returns-in_err-right c =
    let pair : word_bytes c.in_ok-word.word ≡ codes "pair" = search rules in
    broke _ _ _ c.from_residual-in_err-right.ensures.0 (no_right _ (_, c.in_ok-word.ensures, pair) c.in_ok-left.ensures c.in_err-right.ensures)

pub returns : goal.returns
returns c =
    let next = c.in_ok-word.ensures in
    let other : word_bytes c.in_ok-word.word ≡ codes "pair" → ⊥ = search rules in
    let named : MatchOption c.map.result ((k : SimpleKind) → word_bytes c.in_ok-word.word ≡ kind_bytes k → ⊥) (λ k. (j : SimpleKind) × (k ≡ Simple j) × (word_bytes c.in_ok-word.word ≡ kind_bytes j)) = search rules in
    from_option _ _ (KindNext (point c.args.reader.now)) _ _ _ _ c.ok_or.ensures.value named (λ k h. rw h.1 (_, next, h.2)) (no_kind next other)
