use Rattle.std.proofs.Common.{◌≡◌, ◌++◌, codes, decimal}
use Rattle.std.specs.List.{join_by}
use Rattle.std.specs.Fmt.{HasWritten, IsPlainFormatter}
use denote.Shadow.{shadow}
use denote.Text.{Utf8}
use Rattle.truth_tables.specs.Tables.{bit}
use Rattle.truth_tables.proofs.Joining.{passing, before_next}
use Rattle.truth_tables.proofs.TogetherDisplay.fmt.Given as goal

abbrev pub invariant-loop-j : goal.invariant-loop-j
invariant-loop-j g l =
    record {
      text : shadow (Utf8 l.and);
      separator : l.and ≡ before_next (codes " and ") (passing (bit l.self.0) l.j-counter);
      wrote : IsPlainFormatter l.initial.f → HasWritten g.W.Write.write_str_gives l.initial.f (join_by (λ j. codes "x" ++ decimal j) (codes " and ") (passing (bit l.self.0) l.j-counter)) l.f;
    }
