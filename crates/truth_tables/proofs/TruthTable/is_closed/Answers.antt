use Rattle.std.proofs.Common.{ℕ, rules, ◌∙◌, subst}
use Rattle.std.proofs.lemmas.Bool.Decides.{Decides-eqb, Decides-like, not_from_Decides}
use Rattle.truth_tables.specs.Tables.{Closed}
use Rattle.truth_tables.proofs.Closing.{code_stays, closed_stays}
use Rattle.truth_tables.proofs.TruthTable.is_closed.Goals as goal

pub returns-clause-closed : goal.returns-clause-closed
returns-clause-closed c =
    let x = c.args.self.bits in
    let r = c.closed.result.bits in
    Decides-like _ (λ e. subst (λ (n : ℕ). Closed n) e c.closed.ensures.closes.closed) (λ k. closed_stays x r (search rules) (search rules) c.closed.ensures.closes k) (Decides-eqb r x)

pub returns-clause-other : goal.returns-clause-other
returns-clause-other c =
    let x = c.args.self.bits in
    λ e y k. not_from_Decides _ (Decides-eqb c.closed.result.bits x) e (c.closed.ensures.code ∙ code_stays y x k)
