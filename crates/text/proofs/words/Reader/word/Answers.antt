use Rattle.std.proofs.Common.{ℕ, ◌-◌, ◌≤◌, Bool, List, length, take, drop, refl, arith, rules}
use Rattle.std.proofs.lemmas.Grind.{common_steps}
use Rattle.text.specs.Lines.{blank, inside, AllAre, Stops}
use Rattle.text.proofs.words.Reader.word.Goals as goal

-- the first n bytes pass the test, and the next does not
record Front (test : ℕ → Bool) (bs : List ℕ) (n : ℕ) : Type 0 where
  within : n ≤ length bs
  all : AllAre test bs n
  stops : Stops test bs n

pub returns-then-n-eq0 : goal.returns-then-n-eq0
returns-then-n-eq0 c =
    let whole = c.args.self.now.rest.now in
    let gap : Front blank whole c.count-gap.result = search rules in (
      record {
        gap = take c.count-gap.result whole;
        others = drop c.count-gap.result whole;
        cut = grind (arith, common_steps);
        blanks = grind (arith, common_steps);
        ends = grind (arith, common_steps);
        none = grind (arith, common_steps);
      },
      refl,
    )

pub returns : goal.returns
returns c =
    let whole = c.args.self.now.rest.now in
    let gap : Front blank whole c.count-gap.result = search rules in
    let word : Front inside (take (length whole - c.count-gap.result) (drop c.count-gap.result whole)) c.count-n.result = search rules in
    record {
      gap = take c.count-gap.result whole;
      cut = grind (arith, common_steps);
      blanks = grind (arith, common_steps);
      some = grind (arith, common_steps);
      solid = grind (arith, common_steps);
      longest = grind (arith, common_steps);
      here = grind (arith, common_steps);
      after = grind (arith, common_steps);
    }
