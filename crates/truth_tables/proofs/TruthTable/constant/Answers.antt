use Rattle.std.proofs.Common.{cond, sym, refl, ap, ◌∙◌}
use Rattle.truth_tables.specs.Monotone.{Monotone, always, never}
use Rattle.truth_tables.specs.Tables.{function}
use Rattle.truth_tables.proofs.MonotoneLaws.{by_value}
use Rattle.truth_tables.proofs.Closing.{by_table}
use Rattle.truth_tables.proofs.TruthTable.constant.Goals as goal

pub returns-then-value : goal.returns-then-value
unfolding function
returns-then-value c = by_value 6 (by_table 6 _ _ refl) ∙ sym (ap {B = Monotone 6} (λ b. cond b (always 6) (never 6)) c.if-value.true)

pub returns-else-value : goal.returns-else-value
unfolding function
returns-else-value c = by_value 6 (by_table 6 _ _ refl) ∙ sym (ap {B = Monotone 6} (λ b. cond b (always 6) (never 6)) c.if-value.false)
