use Rattle.std.proofs.Common.{refl, arith}
use Rattle.kinds.specs.Flags.{flags}
use Rattle.maps.specs.MapLaws.{cleared_keeps, right_keeps}
use Rattle.formats.specs.Documents.{commands}
use Rattle.formats.specs.QueryBytes.{query_at}
use Rattle.worked_examples.specs.Examples.{counting}
use Rattle.worked_examples.proofs.examples_hold.Goals as goal

pub returns : goal.returns
unfolding commands query_at
returns c = record {
  rows = refl;
  clearances = cleared_keeps 4 (omega arith) (omega arith);
  halves = right_keeps flags counting;
}
