use Rattle.std.proofs.Common.{refl, lit<}
use Rattle.grammar.specs.declared.names.SimpleKind.TheVariants.{Flag, Count, Clearance, Condition}
use Rattle.grammar.proofs.names.SimpleKindKeyword.all.Goals as goal

pub returns : goal.returns
returns c = elim [ Flag ↦ (0, lit< tt, refl) | Count ↦ (1, lit< tt, refl) | Clearance ↦ (2, lit< tt, refl) | Condition ↦ (3, lit< tt, refl) ]
