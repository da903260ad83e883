use Rattle.std.proofs.Common.{◌≡◌, vec_len}
use Rattle.player.proofs.play.read_items.Given as goal

abbrev pub invariant-loop-word : goal.invariant-loop-word
invariant-loop-word g l = vec_len l.items ≡ l.word-index
