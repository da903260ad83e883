-- A word that is cut at its first comma.
use Rattle.std.specs.Prelude.{◌≡◌, ℕ, ◌+◌, Bool, not, ◌∷◌, ◌++◌, length, ◌==◌}
use Rattle.text.specs.declared.words.Word.{Word}
use Rattle.text.specs.Lines.{All, word_bytes, onward}

-- any byte but a comma
abbrev pub no_comma : ℕ → Bool
no_comma b = not (b == 44)

-- w is v, a comma and u; v has no comma, and both have their places in the line
pub record CutAt (w v u : Word) : Type 0 where
  pub cut : word_bytes w ≡ word_bytes v ++ (44 ∷ word_bytes u)
  pub first : All no_comma (word_bytes v)
  pub place : v.place ≡ w.place
  pub after : u.place ≡ onward w.place (length (word_bytes v) + 1)
