use Rattle.std.proofs.Common.{sym, ap, ◌∙◌}
use Rattle.truth_tables.specs.Tables.{assignment, bit}
use Rattle.truth_tables.proofs.Bitwise.{index_assignment}
use Rattle.truth_tables.proofs.Closing.{code_bits}
use Rattle.truth_tables.proofs.TruthTable.value_at.Goals as goal

pub returns : goal.returns
returns c =
    let x = c.args.self.bits in
    let r = c.closed.result.bits in
    let i = c.args.i in
    sym (ap (bit r) (index_assignment 6 i)) ∙ code_bits x r c.closed.ensures.code (assignment 6 i)
