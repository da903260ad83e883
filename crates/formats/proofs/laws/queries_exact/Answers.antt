use Rattle.formats.proofs.Exact.{queries_exact_lem}
use Rattle.formats.proofs.laws.queries_exact.Goals as goal

pub returns : goal.returns
returns c = queries_exact_lem
