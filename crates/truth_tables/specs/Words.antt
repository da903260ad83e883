-- A function in words.
use Rattle.std.specs.Prelude.{ℕ, ◌-◌, ◌^◌, List, ◌++◌, if◌then◌else◌, ◌==◌, codes, decimal}
use Rattle.std.specs.List.{filter, join_by, range_with_len}
use Rattle.truth_tables.specs.Tables.{bit, least_at}

-- the variables that are true in the assignment of i, as `x0 and x2`
unfoldable pub together : ℕ → List ℕ
together i = join_by (λ j. codes "x" ++ decimal j) (codes " and ") (filter (bit i) (range_with_len 0 6))

-- the least assignments of closed bits, as `x0 and x1 or x2`
unfoldable pub least_sets : ℕ → List ℕ
least_sets x = join_by together (codes " or ") (filter (least_at x) (range_with_len 0 64))

-- the function with these closed bits
abbrev pub words : ℕ → List ℕ
words x = if x == 0 then codes "never" else (if x == 2 ^ 64 - 1 then codes "always" else least_sets x)
