use Rattle.std.proofs.Common.{rules, ◌≡◌, ℕ, not, ◌<◌, true, Decides, nat_lt}
use Rattle.std.proofs.Math.Bool.{and_comm}
use Rattle.std.proofs.iter.runs.Sources.{ranges}
use Rattle.std.proofs.lemmas.Bool.Decides.{Decides-below_and, same_from_decides}
use Rattle.truth_tables.specs.Tables.{bit, set_without, least_below}
use Rattle.truth_tables.proofs.TruthTable.is_least.Goals as goal

-- where bit i of x is set, the rest of `least_below` is a test of each variable
rest_decides : (x i n : ℕ) → bit x i ≡ true → Decides (least_below x i n) ((j : ℕ) → j < n → not (set_without x i j) ≡ true)
rest_decides x i n e =
    Decides-below_and (λ j. not (set_without x i j)) (λ j. not (set_without x i j) ≡ true) (least_below x i) (λ _. (λ t. t, λ t. t)) e (λ j. and_comm (least_below x i j) (not (set_without x i j))) n

pub returns-then-self-i-eq1 : goal.returns-then-self-i-eq1
returns-then-self-i-eq1 c =
    let below : nat_lt c.args.i 64 ≡ true = search rules in
    let set : bit c.args.self.bits c.args.i ≡ true = search rules in
    rw below (same_from_decides _ _ (λ t j h. search (rules, ranges), λ none. search (rules, ranges)) (rest_decides c.args.self.bits c.args.i 6 set))
