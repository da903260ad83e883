use Rattle.text.specs.Lines.{point, WordNext}
use Rattle.text.proofs.Single.{not_both}
use Rattle.papers.proofs.Refusals.{from_option}
use Rattle.papers.proofs.statements.next.Goals as goal

pub returns : goal.returns
returns c = from_option _ _ (WordNext (point c.args.reader.now)) _ _ _ _ c.ok_or.ensures.value c.word.ensures (λ w h. h) (λ h w q s. not_both h.0 s)
