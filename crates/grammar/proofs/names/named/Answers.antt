use Rattle.std.proofs.Common.{ℕ, ◌<◌, ◌≡◌, ◌≢◌, List, length, slice_index_or, Option, None, Some, MatchOption, ap, sym, ◌∙◌, rules}
use Rattle.std.specs.List.{Contains}
use Rattle.std.proofs.iter.runs.Made.{chains}
use Rattle.grammar.proofs.names.named.Goals as goal

-- the word is that of none of the list
abbrev NoneOf : {K : Type 0} → (K → List ℕ) → List K → List ℕ → Type 0
NoneOf {K} bytes all word = (i : ℕ) (d : K) → i < length all → word ≢ bytes (slice_index_or all i d)

of_none : {K : Type 0} (bytes : K → List ℕ) (all : List K) (word : List ℕ) (r : Option K) → ((k : K) → Contains all k) → MatchOption r (NoneOf bytes all word) (λ k. word ≡ bytes k) → MatchOption r ((k : K) → word ≢ bytes k) (λ k. word ≡ bytes k)
of_none bytes all word None each h = λ k e. let at = each k in h at.0 k at.1 (e ∙ sym (ap bytes at.2))
of_none bytes all word (Some k) each h = h

pub returns : goal.returns
returns g c = of_none _ c.all.result.now _ _ c.all.ensures (search (rules, chains))
