use Rattle.uxml.proofs.Laws.{all_below}
use Rattle.uxml.proofs.commands.below_is_the_tree_and_all_below_its_children.Goals as goal

pub returns : goal.returns
returns g c = all_below g.met.K.Kind.lawful
