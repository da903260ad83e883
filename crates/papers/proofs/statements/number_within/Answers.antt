use Rattle.std.proofs.Common.{◌≡◌, ◌≤◌, ◌<◌, None, MatchOption, arith, rules}
use Rattle.std.specs.Option.{SomeIff}
use Rattle.text.specs.Lines.{point}
use Rattle.papers.specs.Papers.{WithinNext}
use Rattle.papers.proofs.Refusals.{broke, from_option, no_number_word, number_told, narrowed}
use Rattle.papers.proofs.statements.number_within.Goals as goal

pub returns-in_err-word : goal.returns-in_err-word
returns-in_err-word c = broke _ _ _ c.from_residual.ensures.0 (no_number_word _ _ c.in_err-word.ensures)

pub returns : goal.returns
returns c =
    let small : MatchOption c.number.result (c.and_then.result ≡ None) (λ n. SomeIff c.and_then.result (n < 256) n) = search rules in
    let within : MatchOption c.and_then.result (c.filter.result ≡ None) (λ n. SomeIff c.filter.result ((c.args.low ≤ n) × (n ≤ c.args.high)) n) = search rules in
    let told = number_told _ _ _ c.in_ok-word.ensures (omega arith) (narrowed _ _ _ _ _ (narrowed _ _ _ _ _ c.number.ensures small) within) in
    from_option _ _ (WithinNext c.args.low c.args.high (point c.args.reader.now)) _ _ _ _ c.ok_or.ensures.value told (λ n h. h) (λ h. h)
