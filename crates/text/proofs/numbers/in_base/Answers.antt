use Rattle.std.proofs.Common.{arith, false-eqb}
use Rattle.std.proofs.lemmas.Grind.{common_steps}
use Rattle.std.proofs.lemmas.Int.Digits.{digits_value_more, digits_more}
use Rattle.text.proofs.Reading.{no_more}
use Rattle.text.proofs.numbers.in_base.Goals as goal

pub returns-in_err-n : goal.returns-in_err-n
returns-in_err-n c = rw c.from_residual.ensures (λ h. no_more _ _ _ (omega arith) (omega arith) (rw c.loop-b.invariant.is at c.in_err-n.ensures) (h.0.1, h.1))

pub loop-b-preserved : goal.loop-b-preserved
loop-b-preserved c = record {
  is = grind (arith, common_steps, digits_value_more, c.in_ok-n.ensures);
  digits = grind (arith, common_steps, digits_more, c.in_ok-n.ensures);
  small = grind (arith, common_steps, c.in_ok-n.ensures);
}

pub returns : goal.returns
returns c = grind (arith, common_steps, false-eqb)
