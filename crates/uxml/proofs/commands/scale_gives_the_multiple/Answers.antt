use Rattle.uxml.proofs.Laws.{gives_the_multiple}
use Rattle.uxml.proofs.commands.scale_gives_the_multiple.Goals as goal

pub returns : goal.returns
returns g c = gives_the_multiple g.met.K.Kind.lawful
