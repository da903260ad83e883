use Rattle.uxml.proofs.Laws.{adds_images}
use Rattle.uxml.proofs.normal.loads_add_equal_siblings.Goals as goal

pub returns : goal.returns
returns g c = adds_images g.met.K.Kind.lawful
