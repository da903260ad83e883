use Rattle.uxml.proofs.Laws.{tells_equal_trees}
use Rattle.uxml.proofs.equality.same_trees_are_equal.Goals as goal

pub returns : goal.returns
returns g c = tells_equal_trees g.met.K.Kind.lawful
