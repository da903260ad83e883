use Rattle.uxml.proofs.Meeting.{uses_leave_normal}
use Rattle.uxml.proofs.stores.uses_leave_normal_states.Goals as goal

pub returns : goal.returns
returns g c = uses_leave_normal g.met.K.Kind.lawful
