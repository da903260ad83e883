use Rattle.std.proofs.Common.{rules, ◌≢◌, arith}
use Rattle.kinds.specs.declared.clearances.Clearance.{Clearance}
use Rattle.kinds.specs.declared.clearances.Clearance.TheVariants.{Top, Secret, Confidential, Public}
use Rattle.kinds.specs.Clearances.{rank}
use Rattle.maps.proofs.Cleared.new.Goals as goal

-- no clearance has this rank
pub returns-in-None : goal.returns-in-None
returns-in-None c low high =
    let none : (x : Clearance) → rank x ≢ c.args.from = search rules in omega (arith, low, high, none Top, none Secret, none Confidential, none Public)
