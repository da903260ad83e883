use Rattle.formats.proofs.DocumentExact.{documents_exact_lem}
use Rattle.formats.proofs.laws.documents_exact.Goals as goal

pub returns : goal.returns
returns c = documents_exact_lem
