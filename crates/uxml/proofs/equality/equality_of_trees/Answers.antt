use Rattle.uxml.proofs.Laws.{equivalence}
use Rattle.uxml.proofs.equality.equality_of_trees.Goals as goal

pub returns : goal.returns
returns g c = equivalence g.met.K.Kind.lawful
