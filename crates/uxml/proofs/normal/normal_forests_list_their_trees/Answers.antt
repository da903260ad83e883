use Rattle.uxml.proofs.Laws.{lists_its_trees}
use Rattle.uxml.proofs.normal.normal_forests_list_their_trees.Goals as goal

pub returns : goal.returns
returns g c = lists_its_trees g.met.K.Kind.lawful
