use Rattle.formats.proofs.QueryBack.{queries_read_back_lem}
use Rattle.formats.proofs.laws.queries_read_back.Goals as goal

pub returns : goal.returns
returns c = queries_read_back_lem
