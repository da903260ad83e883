use Rattle.truth_tables.proofs.Closing.{function_and, code_bits}
use Rattle.truth_tables.proofs.TruthTable.both.Goals as goal

pub returns : goal.returns
returns c =
    let x = c.args.self.bits in
    let y = c.args.other.bits in
    let r = c.closed.result.bits in
    let s = c.closed-2.result.bits in
    function_and x y r s (code_bits x r c.closed.ensures.code) (code_bits y s c.closed-2.ensures.code)
