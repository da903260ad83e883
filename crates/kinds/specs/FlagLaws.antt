-- Flags are lawful, and have one code each.
use Rattle.std.specs.Prelude.{◌≡◌, Bool, true, false, refl}
use Rattle.std.specs.Cmp.{booleans_Decides}
use Rattle.std.proofs.Math.Bool.{or_assoc, or_comm, or-false, and_assoc, and_comm, and-true, and-false, and-or_distrib_left}
use Rattle.kinds.specs.Semiring.{Lawful}
use Rattle.kinds.specs.Flags.{flags, flag_code}

pub flags_lawful : Lawful flags
flags_lawful = record {
  plus_assoc = or_assoc;
  plus_comm = or_comm;
  plus_zero = or-false;
  times_assoc = and_assoc;
  times_comm = and_comm;
  times_one = and-true;
  times_zero = and-false;
  times_plus = and-or_distrib_left;
  same_exact = booleans_Decides;
}

pub one_flag_code : (p q : Bool) → flag_code p ≡ flag_code q → p ≡ q
one_flag_code true true e = refl
one_flag_code true false e = cc
one_flag_code false true e = cc
one_flag_code false false e = refl
