use Rattle.std.proofs.Common.{◌≡◌, codes}
use Rattle.std.specs.List.{join_by}
use Rattle.std.specs.Fmt.{HasWritten, IsPlainFormatter}
use denote.Shadow.{shadow}
use denote.Text.{Utf8}
use Rattle.truth_tables.specs.Tables.{least_at}
use Rattle.truth_tables.specs.Words.{together}
use Rattle.truth_tables.proofs.Joining.{passing, before_next}
use Rattle.truth_tables.proofs.TruthTableDisplay.fmt.Given as goal

abbrev pub invariant-loop-i : goal.invariant-loop-i
invariant-loop-i g l =
    record {
      text : shadow (Utf8 l.or);
      separator : l.or ≡ before_next (codes " or ") (passing (least_at l.table.bits) l.i);
      wrote : IsPlainFormatter l.initial.f → HasWritten g.W.Write.write_str_gives l.initial.f (join_by together (codes " or ") (passing (least_at l.table.bits) l.i)) l.f;
    }
