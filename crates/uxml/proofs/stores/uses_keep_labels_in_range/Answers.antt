use Rattle.uxml.proofs.Labels.{uses_leave_labelled}
use Rattle.uxml.proofs.stores.uses_keep_labels_in_range.Goals as goal

pub returns : goal.returns
returns g c = uses_leave_labelled g.K.Kind.ring
