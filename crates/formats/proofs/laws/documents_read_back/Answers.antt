use Rattle.formats.proofs.ReadBack.{documents_read_back_lem}
use Rattle.formats.proofs.laws.documents_read_back.Goals as goal

pub returns : goal.returns
returns c = documents_read_back_lem
