use Rattle.uxml.proofs.Laws.{gives_those_labelled}
use Rattle.uxml.proofs.commands.only_gives_those_labelled.Goals as goal

pub returns : goal.returns
returns g c = gives_those_labelled g.met.K.Kind.lawful
