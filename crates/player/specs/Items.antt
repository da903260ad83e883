-- Annotations as a paper writes them.
use Rattle.std.specs.Prelude.{◌≡◌, ℕ, ◌^◌, ◌<◌, List}
use Rattle.text.specs.Numerals.{Writes, value_of}

-- The bytes are a numeral that writes the code, which is below 2^64 as every code is.
abbrev pub Spells : ℕ → List ℕ → Type 0
Spells code bytes = Writes bytes × (value_of bytes < 2 ^ 64) × (code ≡ value_of bytes)
