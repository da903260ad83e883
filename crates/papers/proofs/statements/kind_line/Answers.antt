use Rattle.std.proofs.Common.{codes}
use Rattle.papers.specs.Papers.{KindNext}
use Rattle.papers.proofs.Refusals.{broke, no_begin, no_rest, no_end, one_kind}
use Rattle.papers.proofs.statements.kind_line.Goals as goal

pub returns-in_err-begin : goal.returns-in_err-begin
returns-in_err-begin c = broke _ _ _ c.from_residual.ensures.0 (no_begin (codes "kind") KindNext c.in_err-begin.ensures)

pub returns-in_err-kind : goal.returns-in_err-kind
returns-in_err-kind c = broke _ _ _ c.from_residual-in_err-kind.ensures.0 (no_rest (codes "kind") KindNext c.in_ok-begin.ensures c.in_err-kind.ensures)

pub returns-in_err-end : goal.returns-in_err-end
returns-in_err-end c = broke _ _ _ c.from_residual-in_err-end.ensures.0 (no_end (codes "kind") KindNext c.in_ok-kind.kind (λ k q a b. (one_kind _ _ q _ k a b).1) c.in_ok-begin.ensures c.in_ok-kind.ensures c.in_err-end.ensures)
