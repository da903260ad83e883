use Rattle.std.proofs.Common.{subst}
use Rattle.text.specs.Lines.{Point, point, top}
use Rattle.papers.specs.Papers.{KindLine}
use Rattle.papers.proofs.Whole.{broke_off, handed_on, no_first_line, no_second_line, no_others}
use Rattle.papers.proofs.statements.read_paper.Goals as goal
use Rattle.papers.proofs.statements.read_paper.Goals.{In_ok-kind}

-- the first line, read from the top of the text
first : (c : In_ok-kind) → KindLine (top c.args.text.now) c.in_ok-kind.kind (point c.kind_line.new.reader)
first c = subst (λ p. KindLine p c.in_ok-kind.kind (point c.kind_line.new.reader)) c.new-reader.ensures c.in_ok-kind.ensures

pub returns-in_err-kind : goal.returns-in_err-kind
returns-in_err-kind c = broke_off _ _ _ c.from_residual.ensures.0 (no_first_line _ (subst (λ p. (k : _) (q : Point) → KindLine p k q → ⊥) c.new-reader.ensures c.in_err-kind.ensures))

pub returns-in_err-map : goal.returns-in_err-map
returns-in_err-map c = broke_off _ _ _ c.from_residual-in_err-map.ensures.0 (no_second_line _ _ _ (first (goal.at.returns-in_err-map c).In_ok-kind) c.in_err-map.ensures)

pub returns-in_err-items : goal.returns-in_err-items
returns-in_err-items c =
    let one = first (goal.at.returns-in_err-items c).In_ok-kind in
    let mapped = c.in_ok-map.ensures in
    handed_on _ _ _ _ _ c.from_residual-in_err-items.ensures.1 (no_others _ _ _ _ _ one (mapped.0, mapped.1, mapped.2.0, mapped.3)) c.in_err-items.ensures

pub returns : goal.returns
returns c =
    let mapped = c.in_ok-map.ensures in
    record {
      after_kind = point c.kind_line.new.reader;
      after_map = point c.map_line.new.reader;
      last = point c.all_items.new.reader;
      kind = first (goal.at.returns c).In_ok-kind;
      map = (mapped.0, mapped.1, mapped.2.0, mapped.3);
      items = c.in_ok-items.ensures;
      starts = mapped.2.1;
      sized = mapped.2.2;
    }
