use Rattle.uxml.proofs.Laws.{gives_for_each}
use Rattle.uxml.proofs.commands.for_gives_the_sum_over_trees.Goals as goal

pub returns : goal.returns
returns g c = gives_for_each g.met.K.Kind.lawful
