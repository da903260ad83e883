use Rattle.uxml.proofs.Meeting.{meets_as_a_set}
use Rattle.uxml.proofs.stores.stocks_are_sets.Goals as goal

pub returns : goal.returns
returns g c = meets_as_a_set g.met.K.Kind.lawful
