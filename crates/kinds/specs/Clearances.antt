-- The five clearances by rank: none 0, top 1, secret 2, confidential 3, public 4. The rank is the code.
use Rattle.std.specs.Prelude.{ℕ}
use Rattle.kinds.specs.declared.clearances.Clearance.{Clearance}
use Rattle.kinds.specs.declared.clearances.Clearance.TheVariants.{None, Top, Secret, Confidential, Public}

abbrev pub rank : Clearance → ℕ
rank None = 0
rank Top = 1
rank Secret = 2
rank Confidential = 3
rank Public = 4
