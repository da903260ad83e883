use Rattle.std.proofs.Common.{rules, ◌≡◌, ℕ, ◌+◌, ◌-◌, ◌^◌, refl, codes, true, sym, ap, ◌∙◌}
use Rattle.std.specs.List.{join_by}
use Rattle.std.proofs.lemmas.Bool.{ne_eqb}
use Rattle.std.proofs.Output.{has_written_append, has_written_of_eq, has_written_to_eq}
use Rattle.truth_tables.specs.Tables.{least_at}
use Rattle.truth_tables.specs.Words.{together, least_sets, words}
use Rattle.truth_tables.proofs.Joining.{passing, before_next, passing_no, joined_yes, separator_yes}
use Rattle.truth_tables.proofs.TruthTableDisplay.fmt.Goals as goal
use Rattle.truth_tables.proofs.TruthTableDisplay.fmt.Goals.{then-is_least+in_ok-write-in_default, else-is_least}

-- bits that are neither none nor all
words_between : (x : ℕ) → (x ≡ 0 → ⊥) → (x ≡ 2 ^ 64 - 1 → ⊥) → least_sets x ≡ words x
words_between x low high = rw (ne_eqb x 0 low, ne_eqb x (2 ^ 64 - 1) high) refl

pub loop-i-preserved : goal.loop-i-preserved
loop-i-preserved g c =
    let p = least_at c.closed-table.result.bits in
    let n = c.loop-i.i in
    let sep = codes " or " in
    let before = c.loop-i.invariant in
    elim c.if-is_least.branch [
      | then-is_least+in_ok-write-in_default w ↦
          let yes : p n ≡ true = search rules in
          record {
            text = search rules;
            separator = ap (λ r. r.now) w.or-is ∙ separator_yes p sep n yes;
            wrote = λ plain. has_written_of_eq _ _ _ _ _ (joined_yes p together sep c.loop-i.or.now n yes before.separator) (has_written_append _ _ _ _ _ _ (before.wrote plain) (search rules));
          }
      | else-is_least w ↦
          let same : passing p (n + 1) ≡ passing p n = passing_no p n (search rules) in
          record {
            text = search rules;
            separator = ap (λ r. r.now) w.or-is ∙ before.separator ∙ sym (ap (before_next sep) same);
            wrote = λ plain. has_written_to_eq _ _ _ _ _ w.f-is (has_written_of_eq _ _ _ _ _ (sym (ap (join_by together sep) same)) (before.wrote plain));
          }
    ]

pub returns-after-loop-i-clause-writes : goal.returns-after-loop-i-clause-writes
unfolding least_sets
returns-after-loop-i-clause-writes g c plain ok =
    let all : c.loop-i.i ≡ 64 = search rules in
    has_written_of_eq _ _ _ _ _
    (ap (λ k. join_by together (codes " or ") (passing (least_at c.closed-table.result.bits) k)) all ∙ words_between c.closed-table.result.bits (search rules) (search rules) ∙ ap words c.closed-table.ensures.code)
    (c.loop-i.invariant.wrote plain)
