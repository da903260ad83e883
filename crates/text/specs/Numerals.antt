-- The numbers that words write.
use Rattle.std.specs.Prelude.{ℕ, Bool, cond, ◌&&◌, ◌||◌, List, drop, ◌==◌, slice_index}
use Rattle.std.specs.Str.Parse.{IsNumeral, digits_value}

-- the word begins with 0x or 0X
abbrev pub hexed : List ℕ → Bool
hexed w = slice_index w 0 == 48 && (slice_index w 1 == 120 || slice_index w 1 == 88)

-- the base of the digits
abbrev pub numeral_base : List ℕ → ℕ
numeral_base w = cond (hexed w) 16 10

-- the bytes that have to be digits
abbrev pub numeral_digits : List ℕ → List ℕ
numeral_digits w = cond (hexed w) (drop 2 w) w

-- the word is a numeral: one digit of its base or more, and nothing else
abbrev pub Writes : List ℕ → Type 0
Writes w = IsNumeral (numeral_base w) (numeral_digits w)

-- the number that the word writes, where it is a numeral
abbrev pub value_of : List ℕ → ℕ
value_of w = digits_value (numeral_base w) (numeral_digits w)
