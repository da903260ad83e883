use Rattle.std.proofs.Common.{rules, ◌≡◌, ◌<◌, ◌∙◌, subst}
use Rattle.truth_tables.specs.Tables.{bit, index, function}
use Rattle.truth_tables.proofs.Bitwise.{index_lt}
use Rattle.truth_tables.proofs.Closing.{BitsOf, Has, steps, steps_raise, shift_is, shift_lt, one_more, bits_code, bits_close}
use Rattle.truth_tables.proofs.TruthTable.closed.Goals as goal

pub overflow_shl-x : goal.overflow_shl-x
overflow_shl-x c =
    let low : c.loop-j.j < 6 = search rules in
    shift_lt c.loop-j.j _ low (search (rules, shift_is c.loop-j.j low))

pub loop-j-preserved : goal.loop-j-preserved
loop-j-preserved c =
    let low : c.loop-j.j < 6 = search rules in
    one_more c.loop-j.j _ c.loop-j.x (bit c.args.self.bits) low (search (rules, shift_is c.loop-j.j low)) c.loop-j.invariant

pub returns : goal.returns
unfolding function
returns c =
    let x = c.args.self.bits in
    let all : c.loop-j.j ≡ 6 = search rules in
    let has : Has c.loop-j.x (steps 6 (bit x)) = subst (λ n. Has c.loop-j.x (steps n (bit x))) all c.loop-j.invariant in
    let bits : BitsOf x _ = λ a. has.bits (index 6 a) (index_lt 6 a) ∙ steps_raise (bit x) a in
    record { code = bits_code x _ has.fits bits; closes = bits_close x _ bits }
