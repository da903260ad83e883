use Rattle.std.proofs.Common.{rules, ◌≡◌, ℕ, ◌+◌, List, ◌++◌, codes, decimal, true, sym, ap, ◌∙◌}
use Rattle.std.specs.List.{join_by}
use Rattle.std.proofs.Output.{has_written_append, has_written_of_eq, has_written_to_eq}
use Rattle.truth_tables.specs.Tables.{bit}
use Rattle.truth_tables.specs.Words.{together}
use Rattle.truth_tables.proofs.Joining.{passing, before_next, passing_no, joined_yes, separator_yes}
use Rattle.truth_tables.proofs.TogetherDisplay.fmt.Goals as goal
use Rattle.truth_tables.proofs.TogetherDisplay.fmt.Goals.{then-self-j-eq1+in_ok-write, else-self-j-eq1}

pub loop-j-preserved : goal.loop-j-preserved
loop-j-preserved g c =
    let p = bit c.args.self.now.0 in
    let n = c.loop-j.j-counter in
    let sep = codes " and " in
    let name : ℕ → List ℕ = λ j. codes "x" ++ decimal j in
    let before = c.loop-j.invariant in
    elim c.if-self-j-eq1.branch [
      | then-self-j-eq1+in_ok-write w ↦
          let yes : p n ≡ true = search rules in
          record {
            text = search rules;
            separator = ap (λ r. r.now) w.and-is ∙ separator_yes p sep n yes;
            wrote = λ plain. has_written_of_eq _ _ _ _ _ (joined_yes p name sep c.loop-j.and.now n yes before.separator) (has_written_append _ _ _ _ _ _ (before.wrote plain) (search rules));
          }
      | else-self-j-eq1 w ↦
          let same : passing p (n + 1) ≡ passing p n = passing_no p n (search rules) in
          record {
            text = search rules;
            separator = ap (λ r. r.now) w.and-is ∙ before.separator ∙ sym (ap (before_next sep) same);
            wrote = λ plain. has_written_to_eq _ _ _ _ _ w.f-is (has_written_of_eq _ _ _ _ _ (sym (ap (join_by name sep) same)) (before.wrote plain));
          }
    ]

pub returns-clause-writes : goal.returns-clause-writes
unfolding together
returns-clause-writes g c plain ok =
    let all : c.loop-j.j-counter ≡ 6 = search rules in
    has_written_of_eq _ _ _ _ _ (ap (λ k. join_by (λ j. codes "x" ++ decimal j) (codes " and ") (passing (bit c.args.self.now.0) k)) all) (c.loop-j.invariant.wrote plain)
