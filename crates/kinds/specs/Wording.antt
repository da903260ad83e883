-- The words in which annotations are printed.
use Rattle.std.specs.Prelude.{ℕ, Bool, cond, List, ◌++◌, Option, codes}
use Rattle.std.specs.Option.{option_map, option_zip}
use Rattle.kinds.specs.declared.clearances.Clearance.{Clearance}
use Rattle.kinds.specs.declared.clearances.Clearance.TheVariants.{None, Top, Secret, Confidential, Public}

abbrev pub flag_word : Bool → List ℕ
flag_word b = cond b (codes "yes") (codes "no")

abbrev pub clearance_word : Clearance → List ℕ
clearance_word None = codes "none"
clearance_word Top = codes "top"
clearance_word Secret = codes "secret"
clearance_word Confidential = codes "confidential"
clearance_word Public = codes "public"

-- two halves in brackets
abbrev pub pair_words : List ℕ → List ℕ → List ℕ
pair_words l r = codes "(" ++ (l ++ (codes ", " ++ (r ++ codes ")")))

-- what a pair prints, where both halves say what they print
abbrev pub pair_output : Option (List ℕ) → Option (List ℕ) → Option (List ℕ)
pair_output l r = option_map (λ p. pair_words p.0 p.1) (option_zip l r)
