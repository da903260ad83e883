use Rattle.uxml.proofs.Identity.{relates_equal_scopes}
use Rattle.uxml.proofs.equality.equal_scopes_have_equal_answers.Goals as goal

pub returns : goal.returns
returns g c = relates_equal_scopes g.met.K.Kind.lawful
