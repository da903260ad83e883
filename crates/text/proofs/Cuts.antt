-- Lines that the reader of words goes over.
use Rattle.std.proofs.Common.{◌<◌, ◌∷◌, length, ap, ◌∙◌, arith, length-append}
use Rattle.text.specs.Lines.{Point, NoWord, LineNext, Skips, stay, line}

pub below_shorter : {p q : Point} → LineNext p q → length q.left < length p.left
below_shorter {p} {q} h = omega (arith, ap length h.cut ∙ length-append h.line (10 ∷ q.left))

pub skips_on : {p q r : Point} → Skips p q → NoWord q → LineNext q r → Skips p r
skips_on stay empty next = line empty next stay
skips_on (line before step others) empty next = line before step (skips_on others empty next)
