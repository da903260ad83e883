use Rattle.uxml.proofs.Laws.{gives_the_children}
use Rattle.uxml.proofs.commands.child_gives_the_children.Goals as goal

pub returns : goal.returns
returns g c = gives_the_children g.met.K.Kind.lawful
