use Rattle.std.proofs.Common.{codes}
use Rattle.papers.specs.Papers.{MapFits}
use Rattle.papers.proofs.Refusals.{broke, no_begin, no_rest, no_end, one_map}
use Rattle.papers.proofs.statements.map_line.Goals as goal

pub returns-in_err-begin : goal.returns-in_err-begin
returns-in_err-begin c = broke _ _ _ c.from_residual.ensures.0 (no_begin (codes "map") (MapFits c.args.kind) c.in_err-begin.ensures)

pub returns-in_err-map : goal.returns-in_err-map
returns-in_err-map c = broke _ _ _ c.from_residual-in_err-map.ensures.0 (no_rest (codes "map") (MapFits c.args.kind) c.in_ok-begin.ensures c.in_err-map.ensures)

pub returns-in_err-end : goal.returns-in_err-end
returns-in_err-end c = broke _ _ _ c.from_residual-in_err-end.ensures.0 (no_end (codes "map") (MapFits c.args.kind) c.in_ok-map.map (λ m q a b. one_map _ _ q _ m a.0 b.0) c.in_ok-begin.ensures c.in_ok-map.ensures c.in_err-end.ensures)
