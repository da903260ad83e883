use Rattle.std.proofs.Common.{◌≡◌, codes, Ok, Err, MatchResult, refl, rules}
use Rattle.std.proofs.lemmas.Option.{MatchOption-at_none}
use Rattle.text.specs.Lines.{point, word_bytes}
use Rattle.grammar.specs.declared.names.SimpleKind.TheVariants.{Clearance, Condition}
use Rattle.grammar.specs.declared.names.SimpleMap.TheVariants.{Cleared, Under}
use Rattle.papers.specs.Papers.{WithinNext, SimpleFits}
use Rattle.papers.proofs.Refusals.{mapped, no_cleared, no_under, no_simple}
use Rattle.papers.proofs.statements.simple_map.Goals as goal

pub returns-in-Some-Cleared-Clearance : goal.returns-in-Some-Cleared-Clearance
returns-in-Some-Cleared-Clearance c =
    let w = c.args.word in
    let p = point c.args.reader.now in
    let word : word_bytes w ≡ codes "cleared" = search rules in
    let is : MatchResult c.number_within.result (λ n. c.map.result ≡ Ok (Cleared n)) (λ e. c.map.result ≡ Err e) = search rules in
    let k = c.in-Some-Cleared-Clearance.is-1 in
    rw k (mapped Cleared _ _ _ (WithinNext 1 4 p) (SimpleFits w Clearance p) is c.number_within.ensures (λ n h. ((word, h.0), refl, (h.1, h.2))) (no_cleared w))

pub returns-in-Some-Under-Condition : goal.returns-in-Some-Under-Condition
returns-in-Some-Under-Condition c =
    let w = c.args.word in
    let p = point c.args.reader.now in
    let word : word_bytes w ≡ codes "under" = search rules in
    let is : MatchResult c.number_within-in-Some-Under-Condition.result (λ n. c.map-in-Some-Under-Condition.result ≡ Ok (Under n)) (λ e. c.map-in-Some-Under-Condition.result ≡ Err e) = search rules in
    let k = c.in-Some-Under-Condition.is-1 in
    rw k (mapped Under _ _ _ (WithinNext 0 63 p) (SimpleFits w Condition p) is c.number_within-in-Some-Under-Condition.ensures (λ n h. ((word, h.0), refl, h.2)) (no_under w))

pub returns-in-None-default : goal.returns-in-None-default
returns-in-None-default c = no_simple _ c.args.word _ (MatchOption-at_none _ _ c.in-None-default.is-0 c.named.ensures)
