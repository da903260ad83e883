use Rattle.uxml.proofs.Laws.{gives_all_below}
use Rattle.uxml.proofs.commands.below_gives_all_below.Goals as goal

pub returns : goal.returns
returns g c = gives_all_below g.met.K.Kind.lawful
