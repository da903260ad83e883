use Rattle.std.proofs.Common.{refl, lit<}
use Rattle.grammar.specs.declared.names.MapWord.TheVariants.{Present, Cleared, Under, Left, Right}
use Rattle.grammar.proofs.names.MapWordKeyword.all.Goals as goal

pub returns : goal.returns
returns c = elim [ Present ↦ (0, lit< tt, refl) | Cleared ↦ (1, lit< tt, refl) | Under ↦ (2, lit< tt, refl) | Left ↦ (3, lit< tt, refl) | Right ↦ (4, lit< tt, refl) ]
