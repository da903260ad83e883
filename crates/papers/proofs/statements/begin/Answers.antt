use Rattle.std.proofs.Common.{◌∙◌, rules}
use Rattle.std.proofs.lemmas.Option.{MatchOption-at_none, MatchOption-at_some}
use Rattle.text.specs.Lines.{point}
use Rattle.text.proofs.Single.{one_first, not_first}
use Rattle.papers.specs.Papers.{Begins}
use Rattle.papers.proofs.Refusals.{broke}
use Rattle.papers.proofs.statements.begin.Goals as goal

pub returns-in_err-word : goal.returns-in_err-word
returns-in_err-word c =
    let none = MatchOption-at_none _ _ c.in_err-word.ensures.ok_part c.first_word.ensures in
    broke _ _ (λ _. Begins (point c.args.reader.now) c.args.keyword.now) c.from_residual.ensures.0 (λ _ q b. not_first none b.1)

pub returns-else-eq : goal.returns-else-eq
returns-else-eq c =
    let first = MatchOption-at_some _ _ _ c.in_ok-word.ensures.ok_part c.first_word.ensures in
    λ _ q b. let same = (one_first first b.1).0 ∙ b.2 in search rules
