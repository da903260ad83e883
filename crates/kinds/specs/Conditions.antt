-- Conditions: monotone Boolean functions of n variables, under or and and.
use Rattle.std.specs.Prelude.{ℕ}
use Rattle.truth_tables.specs.Monotone.{Monotone, agree, never, always, or_of, and_of}
use Rattle.kinds.specs.Semiring.{Semiring}

abbrev pub conditions : ℕ → Semiring
conditions n = record {
  carrier = Monotone n;
  zero = never n;
  one = always n;
  plus = or_of n;
  times = and_of n;
  same = λ f g. agree n f.0 g.0;
}
