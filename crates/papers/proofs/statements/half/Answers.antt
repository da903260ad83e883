use Rattle.std.proofs.Common.{◌∙◌}
use Rattle.text.specs.Lines.{point}
use Rattle.text.proofs.Single.{one_word}
use Rattle.grammar.specs.Keywords.{kind_bytes}
use Rattle.papers.specs.Papers.{Says}
use Rattle.papers.proofs.Refusals.{broke, from_option}
use Rattle.papers.proofs.statements.half.Goals as goal

pub returns-in_err-word : goal.returns-in_err-word
returns-in_err-word c = broke _ _ (λ k. Says (point c.args.reader.now) (kind_bytes k)) c.from_residual.ensures.0 (λ k q s. c.in_err-word.ensures s.0 q s.1)

pub returns : goal.returns
returns c =
    let next = c.in_ok-word.ensures in
    from_option _ _ (λ k. Says (point c.args.reader.now) (kind_bytes k)) _ _ _ _ c.ok_or.ensures.value c.named.ensures (λ k is. (_, next, is)) (λ none k q s. none k ((one_word next s.1).0 ∙ s.2))
