use Rattle.std.proofs.Common.{◌≡◌, Ok, Err, MatchResult, codes, ap, sym, rules}
use Rattle.std.proofs.lemmas.Option.{MatchOption-at_none}
use Rattle.text.specs.Lines.{point, word_bytes}
use Rattle.grammar.specs.declared.names.MapWord.TheVariants as MapWord
use Rattle.grammar.specs.declared.names.KindName.TheVariants.{Simple, Pair}
use Rattle.grammar.specs.declared.names.MapName.TheVariants.{Direct, Left, Right}
use Rattle.papers.specs.Papers.{SimpleFits, ThenFits, MapFits}
use Rattle.papers.proofs.Refusals.{broke, mapped, left_fits, right_fits, no_map_word, no_direct, no_left_map, no_right_map, no_half_map}
use Rattle.papers.proofs.statements.map.Goals as goal

pub returns-in_err-word : goal.returns-in_err-word
returns-in_err-word c = broke _ _ _ c.from_residual.ensures.0 (no_map_word _ c.in_err-word.ensures)

pub returns-in_default-Simple : goal.returns-in_default-Simple
returns-in_default-Simple c =
    let next = c.in_ok-word.ensures in
    let is : MatchResult c.simple_map.result (λ m. c.map.result ≡ Ok (Direct m)) (λ e. c.map.result ≡ Err e) = search rules in
    let k = c.in_default-Simple.simple in
    rw c.in_default-Simple.is-1 (mapped Direct _ _ _ (SimpleFits c.in_ok-word.word k (point c.next.new.reader)) (MapFits (Simple k) (point c.args.reader.now)) is c.simple_map.ensures (λ m h. ((_, _, next, h.0), ap Simple (sym h.1), h.2)) (no_direct k next))

pub returns-in-Some-Left-Pair : goal.returns-in-Some-Left-Pair
returns-in-Some-Left-Pair c =
    let next = c.in_ok-word.ensures in
    let word : word_bytes c.in_ok-word.word ≡ codes "left" = search rules in
    let is : MatchResult c.then.result (λ o. c.map-in-Some-Left-Pair.result ≡ Ok (Left o)) (λ e. c.map-in-Some-Left-Pair.result ≡ Err e) = search rules in
    let k = c.in-Some-Left-Pair.left in
    rw c.in-Some-Left-Pair.is-1 (mapped Left _ _ _ (ThenFits k (point c.next.new.reader)) (MapFits (Pair k _) (point c.args.reader.now)) is c.then.ensures (λ o. left_fits k _ next word o _) (no_left_map k _ next word))

pub returns-in-Some-Right-Pair : goal.returns-in-Some-Right-Pair
returns-in-Some-Right-Pair c =
    let next = c.in_ok-word.ensures in
    let word : word_bytes c.in_ok-word.word ≡ codes "right" = search rules in
    let is : MatchResult c.then-in-Some-Right-Pair.result (λ o. c.map-in-Some-Right-Pair.result ≡ Ok (Right o)) (λ e. c.map-in-Some-Right-Pair.result ≡ Err e) = search rules in
    let k = c.in-Some-Right-Pair.right in
    rw c.in-Some-Right-Pair.is-1 (mapped Right _ _ _ (ThenFits k (point c.next.new.reader)) (MapFits (Pair _ k) (point c.args.reader.now)) is c.then-in-Some-Right-Pair.ensures (λ o. right_fits _ k next word o _) (no_right_map _ k next word))

pub returns-in-Some-default : goal.returns-in-Some-default
returns-in-Some-default c = no_half_map _ c.in_ok-word.ensures (search rules) (search rules) c.in-Some-default.not-Simple-1

pub returns-in-None-default : goal.returns-in-None-default
returns-in-None-default c =
    let none = MatchOption-at_none _ _ c.in-None-default.is-0 c.named.ensures in
    no_half_map _ c.in_ok-word.ensures (none MapWord.Left) (none MapWord.Right) c.in-None-default.not-Simple-1
