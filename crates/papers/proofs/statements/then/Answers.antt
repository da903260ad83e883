use Rattle.std.proofs.Common.{◌≡◌, Ok, Err, Some, MatchResult, codes, rules}
use Rattle.text.specs.Lines.{point, word_bytes}
use Rattle.papers.specs.Papers.{SimpleFits, ThenFits}
use Rattle.papers.proofs.Refusals.{broke, mapped, no_then_word, no_then_map, no_then}
use Rattle.papers.proofs.statements.then.Goals as goal

pub returns-in_err-word : goal.returns-in_err-word
returns-in_err-word c =
    let then : word_bytes c.in-Some.then ≡ codes "then" = search rules in
    broke _ _ _ c.from_residual.ensures.0 (no_then_word _ (_, c.in-Some.ensures, then) c.in_err-word.ensures)

pub returns-then-eq : goal.returns-then-eq
returns-then-eq c =
    let then : word_bytes c.in-Some.then ≡ codes "then" = search rules in
    let next = c.in_ok-word.ensures in
    let k = c.args.half in
    let is : MatchResult c.simple_map.result (λ m. c.map.result ≡ Ok (Some m)) (λ e. c.map.result ≡ Err e) = search rules in
    mapped Some _ _ _ (SimpleFits c.in_ok-word.word k (point c.next.new.reader)) (ThenFits k (point c.args.reader.now)) is c.simple_map.ensures (λ m h. ((_, (_, c.in-Some.ensures, then), (_, _, next, h.0)), (h.1, h.2))) (no_then_map k (_, c.in-Some.ensures, then) next)

pub returns : goal.returns
returns c = no_then _ c.in-Some.ensures (search rules)
