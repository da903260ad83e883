use Rattle.uxml.proofs.Laws.{gives_the_sum}
use Rattle.uxml.proofs.commands.union_gives_the_sum.Goals as goal

pub returns : goal.returns
returns g c = gives_the_sum g.met.K.Kind.lawful
