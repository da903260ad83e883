-- The rank of a clearance, which is its code.
use Rattle.std.specs.Prelude.{◌≤◌}
use Rattle.std.proofs.Common.{lit≤, ap, arith}
use Rattle.std.proofs.Math.Path.{fst_path}
use Rattle.kinds.specs.declared.clearances.Clearance.{Clearance}
use Rattle.kinds.specs.declared.clearances.Clearance.TheVariants.{None, Top, Secret, Confidential, Public}
use Rattle.kinds.specs.Clearances.{rank}
use Rattle.kinds.specs.Upto.{held}
use Rattle.kinds.specs.Codes.{OneCode}

pub rank_le : (c : Clearance) → rank c ≤ 4
rank_le None = lit≤ tt
rank_le Top = lit≤ tt
rank_le Secret = lit≤ tt
rank_le Confidential = lit≤ tt
rank_le Public = lit≤ tt

pub one_rank : OneCode rank (λ c. held 4 (rank c))
one_rank = record {
  same_code = λ x y e. omega (arith, fst_path e, rank_le x, rank_le y);
  same_meaning = λ x y e. ap (held 4) e;
}
