use Rattle.std.proofs.Common.{rules}
use Rattle.text.proofs.Single.{not_both}
use Rattle.papers.proofs.statements.end.Goals as goal

pub returns-in-Some : goal.returns-in-Some
returns-in-Some c = search (rules, not_both)
