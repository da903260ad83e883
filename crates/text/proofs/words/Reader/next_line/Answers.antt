use Rattle.std.proofs.Common.{take, arith}
use Rattle.std.proofs.lemmas.Grind.{common_steps}
use Rattle.text.proofs.words.Reader.next_line.Goals as goal

pub returns : goal.returns
returns c = record {
  line = take c.in-Some.n c.args.self.now.rest.now;
  cut = grind (arith, common_steps);
  one = grind (arith, common_steps);
  below = grind (arith, common_steps);
}
