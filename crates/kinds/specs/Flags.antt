-- Presence: no (zero) or yes (one), under or and and.
use Rattle.std.specs.Prelude.{ℕ, Bool, true, false, cond, ◌&&◌, ◌||◌}
use Rattle.std.specs.Bool.{beq}
use Rattle.kinds.specs.Semiring.{Semiring}

abbrev pub flags : Semiring
flags = record { carrier = Bool; zero = false; one = true; plus = ◌||◌; times = ◌&&◌; same = beq }

-- the code of a flag: 1 for yes, 0 for no
abbrev pub flag_code : Bool → ℕ
flag_code b = cond b 1 0
