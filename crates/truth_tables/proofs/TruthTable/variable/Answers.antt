use Rattle.std.proofs.Common.{rules, ◌≡◌, ◌≤◌, ◌<◌, ℕ, Option, Some, None, MatchOption, IsSomeAnd, Bor, get_or}
use Rattle.truth_tables.specs.declared.TruthTable.{TruthTable}
use Rattle.truth_tables.specs.Tables.{Variable}
use Rattle.truth_tables.proofs.Closing.{masks}
use Rattle.truth_tables.proofs.Variables.{variable_at}
use Rattle.truth_tables.proofs.TruthTable.variable.Goals as goal

at_option : (j : ℕ) (o : Option (Bor ℕ)) (r : Option TruthTable)
    → MatchOption o (6 ≤ j) (λ x. (j < 6) × (x.now ≡ get_or masks j 0))
    → MatchOption o (r ≡ None) (λ x. IsSomeAnd r (λ t. t.bits ≡ x.now))
    → MatchOption r (6 ≤ j) (λ t. Variable j t.bits)
at_option j None None h m = h
at_option j (Some x) (Some t) h m = rw m (rw h.1 (variable_at j h.0))
at_option j None (Some t) h m = cc
at_option j (Some x) None h m = absurd m

pub returns : goal.returns
returns c = at_option c.args.j c.get.result c.map.result (search rules) (search rules)
