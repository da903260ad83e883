use Rattle.uxml.proofs.Identity.{answers_normal}
use Rattle.uxml.proofs.normal.queries_give_normal_forests.Goals as goal

pub returns : goal.returns
returns g c = answers_normal g.met.K.Kind.lawful
