use Rattle.truth_tables.specs.Tables.{bit}
use Rattle.truth_tables.proofs.Closing.{Has, steps}
use Rattle.truth_tables.proofs.TruthTable.closed.Given as goal

abbrev pub invariant-loop-j : goal.invariant-loop-j
invariant-loop-j l = Has l.x (steps l.j (bit l.fn.self.bits))
