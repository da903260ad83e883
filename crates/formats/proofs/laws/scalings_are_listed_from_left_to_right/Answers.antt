use Rattle.formats.proofs.Scaled.{lists_scalings}
use Rattle.formats.proofs.laws.scalings_are_listed_from_left_to_right.Goals as goal

pub returns : goal.returns
returns c = lists_scalings
