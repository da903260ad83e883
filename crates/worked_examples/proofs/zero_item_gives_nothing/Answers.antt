use Rattle.worked_examples.proofs.ZeroItem.{zero_item_gives_nothing_lem}
use Rattle.worked_examples.proofs.zero_item_gives_nothing.Goals as goal

pub returns : goal.returns
returns g c = zero_item_gives_nothing_lem g.met.K.Kind.lawful
