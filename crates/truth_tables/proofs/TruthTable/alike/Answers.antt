use Rattle.std.proofs.lemmas.Bool.Decides.{same_from_decides}
use Rattle.truth_tables.specs.Tables.{function}
use Rattle.truth_tables.proofs.Closing.{codes_exact}
use Rattle.truth_tables.proofs.MonotoneLaws.{monotone_exact}
use Rattle.truth_tables.proofs.TruthTable.alike.Goals as goal

pub returns : goal.returns
returns c =
    let x = c.args.self.bits in
    let y = c.args.other.bits in
    same_from_decides _ _ (codes_exact x y c.closed.result.bits c.closed-2.result.bits c.closed.ensures.code c.closed-2.ensures.code)
    (monotone_exact 6 (function x) (function y))
