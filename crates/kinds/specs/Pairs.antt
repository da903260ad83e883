-- Two kinds side by side, half by half.
use Rattle.std.specs.Prelude.{◌&&◌}
use Rattle.kinds.specs.Semiring.{Semiring}

abbrev pub pairs : Semiring → Semiring → Semiring
pairs R S = record {
  carrier = R.carrier × S.carrier;
  zero = (R.zero, S.zero);
  one = (R.one, S.one);
  plus = λ a b. (R.plus a.0 b.0, S.plus a.1 b.1);
  times = λ a b. (R.times a.0 b.0, S.times a.1 b.1);
  same = λ a b. R.same a.0 b.0 && S.same a.1 b.1;
}
