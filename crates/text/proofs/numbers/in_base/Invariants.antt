use Rattle.std.proofs.Common.{◌≡◌, ◌^◌, ◌<◌, take}
use Rattle.std.specs.Str.Parse.{AllDigits, digits_value}
use Rattle.text.proofs.numbers.in_base.Given as goal

abbrev pub invariant-loop-b : goal.invariant-loop-b
invariant-loop-b l = record { is : l.n ≡ digits_value l.base (take l.b-index l.digits); digits : AllDigits l.base (take l.b-index l.digits); small : l.n < 2 ^ 64 }
