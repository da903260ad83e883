-- A good reading is of a query's own bytes: nothing else reads as it.
use Rattle.std.proofs.Common.{◌≡◌, ℕ, zero, suc, ◌+◌, ◌-◌, ◌*◌, ◌/◌, ◌%◌, ◌<◌, ◌≤◌, Bool, true, false, cond, ◌&&◌, eqb, ltb, leb, List, [], ◌∷◌, length, drop, Some, None, Ok, Err, Option, sym, refl, ap, ◌∙◌, mul_comm, sub-one, arith, drop_of_length-le}
use lib.Arith.{digits_div, digits_mod}
use Rattle.std.proofs.lemmas.Bool.{leb-false, ltb-false, eqb-true}
use Rattle.std.proofs.lemmas.List.{drop_more}
use Rattle.formats.specs.declared.commands.Command.{Command}
use Rattle.formats.specs.declared.commands.Command.TheVariants.{Nothing, Document, Single, Held, Union, Scale, Make, Named, Child, Below, Only, For, Let, IfName, Alike}
use Rattle.formats.specs.declared.commands.Sort.TheVariants.{OfTree, OfForest}
use Rattle.formats.specs.Queries.{none, document, tree_of, held, both, scaled, make, named, child, below, only_of, for_each, let_be, if_name, if_alike}
use Rattle.formats.specs.Reading.{Reading, ◌then◌, ended_at, byte, word}
use Rattle.formats.specs.declared.refusals.Refusal.TheVariants.{TooLong, BytesLeft}
use Rattle.formats.proofs.Readings.{passed, then_ok}
use Rattle.formats.specs.QueryBytes.{Sorts, Read, command_of, operand_width, is_binder, with_new, tail, query_at}
use Rattle.formats.specs.Writing.{two_bytes, write, write_query, Sound}
use Rattle.formats.specs.Laws.{QueriesExact}
use Rattle.formats.proofs.Standing.{plain, Fine, split, command_good, tail_one, tail_two}

abbrev code : Command → ℕ
code Nothing = 0x20
code Document = 0x21
code Single = 0x22
code Held = 0x23
code Union = 0x24
code Scale = 0x25
code Make = 0x26
code Named = 0x27
code Child = 0x28
code Below = 0x29
code Only = 0x2A
code For = 0x2B
code Let = 0x2C
code IfName = 0x2D
code Alike = 0x2E

peel : (b x : ℕ) (c d : Command) (rest : Option Command) → code c ≡ x → cond (eqb b x) (Some c) rest ≡ Some d → (rest ≡ Some d → b ≡ code d) → b ≡ code d
peel b x c d rest k e other = by (eqb b x) refl e
  where
    by : (t : Bool) → eqb b x ≡ t → cond t (Some c) rest ≡ Some d → b ≡ code d
    by true is e = let same : c ≡ d = cc in eqb-true b x is ∙ sym k ∙ ap code same
    by false is e = other e

pub code_is : (b : ℕ) (d : Command) → command_of b ≡ Some d → b ≡ code d
code_is b d e0 =
    peel b 0x20 Nothing d _ refl e0 (λ e1.
    peel b 0x21 Document d _ refl e1 (λ e2.
    peel b 0x22 Single d _ refl e2 (λ e3.
    peel b 0x23 Held d _ refl e3 (λ e4.
    peel b 0x24 Union d _ refl e4 (λ e5.
    peel b 0x25 Scale d _ refl e5 (λ e6.
    peel b 0x26 Make d _ refl e6 (λ e7.
    peel b 0x27 Named d _ refl e7 (λ e8.
    peel b 0x28 Child d _ refl e8 (λ e9.
    peel b 0x29 Below d _ refl e9 (λ e10.
    peel b 0x2A Only d _ refl e10 (λ e11.
    peel b 0x2B For d _ refl e11 (λ e12.
    peel b 0x2C Let d _ refl e12 (λ e13.
    peel b 0x2D IfName d _ refl e13 (λ e14.
    peel b 0x2E Alike d _ refl e14 (λ e15.
    let z : ◌≡◌ {A = ℕ} 0 1 = cc in absurd (omega arith))))))))))))))))

abbrev got : {X : Type 0} → X → Reading X → X
got d (Ok x) = x
got d (Err f) = d

module _ (bytes : List ℕ) (small : (i : ℕ) → byte bytes i < 256) where
  pub word_small : (p : ℕ) → word bytes p < 65536
  word_small p = omega (arith, small p, small (p + 1))

  pub drop_word : (p : ℕ) → p + 1 < length bytes → drop p bytes ≡ two_bytes (word bytes p) (drop (p + 2) bytes)
  drop_word p h =
      let a : (256 * byte bytes p + byte bytes (p + 1)) / 256 ≡ byte bytes p = rw (mul_comm 256 (byte bytes p)) (digits_div (byte bytes p) (small (p + 1))) in
      let b : (256 * byte bytes p + byte bytes (p + 1)) % 256 ≡ byte bytes (p + 1) = rw (mul_comm 256 (byte bytes p)) (digits_mod (byte bytes p) (small (p + 1))) in
      let e : p + 1 + 1 ≡ p + 2 = omega arith in
      let l : p < length bytes = omega arith in
      let d : drop p bytes ≡ byte bytes p ∷ byte bytes (p + 1) ∷ drop (p + 2) bytes = drop_more bytes p 0 l ∙ ap (λ xs. byte bytes p ∷ xs) (drop_more bytes (p + 1) 0 h ∙ ap (λ k. byte bytes (p + 1) ∷ drop k bytes) e) in
      rw (a, b) d

  module _ (at x : ℕ) (is : byte bytes at ≡ x) where
    spelt_none : at + 1 + 0 ≤ length bytes → drop at bytes ≡ x ∷ drop (at + 1 + 0) bytes
    spelt_none h = let e : at + 1 + 0 ≡ at + 1 = omega arith in rw (e, sym is) (drop_more bytes at 0 (omega arith))

    spelt_byte : at + 1 + 1 ≤ length bytes → drop at bytes ≡ x ∷ byte bytes (at + 1) ∷ drop (at + 1 + 1) bytes
    spelt_byte h = rw (sym is) (drop_more bytes at 0 (omega arith) ∙ ap (λ xs. byte bytes at ∷ xs) (drop_more bytes (at + 1) 0 (omega arith)))

    spelt_word : at + 1 + 2 ≤ length bytes → drop at bytes ≡ x ∷ two_bytes (word bytes (at + 1)) (drop (at + 1 + 2) bytes)
    spelt_word h = rw (sym is) (drop_more bytes at 0 (omega arith) ∙ ap (λ xs. byte bytes at ∷ xs) (drop_word (at + 1) (omega arith)))

    spelt_name : at + 1 + 3 ≤ length bytes → drop at bytes ≡ x ∷ byte bytes (at + 1) ∷ two_bytes (word bytes (at + 2)) (drop (at + 1 + 3) bytes)
    spelt_name h =
        let e : at + 1 + 1 ≡ at + 2 = omega arith in
        let k : at + 2 + 2 ≡ at + 1 + 3 = omega arith in
        let d : drop (at + 1 + 1) bytes ≡ two_bytes (word bytes (at + 2)) (drop (at + 1 + 3) bytes) = ap (λ p. drop p bytes) e ∙ drop_word (at + 2) (omega arith) ∙ ap (λ p. two_bytes (word bytes (at + 2)) (drop p bytes)) k in
        spelt_byte (omega arith) ∙ ap (λ xs. x ∷ byte bytes (at + 1) ∷ xs) d

    spelt_two : at + 1 + 2 ≤ length bytes → drop at bytes ≡ x ∷ byte bytes (at + 1) ∷ byte bytes (at + 2) ∷ drop (at + 1 + 2) bytes
    spelt_two h =
        let e : at + 1 + 1 ≡ at + 2 = omega arith in
        let k : at + 2 + 1 ≡ at + 1 + 2 = omega arith in
        let d : drop (at + 1 + 1) bytes ≡ byte bytes (at + 2) ∷ drop (at + 1 + 2) bytes = ap (λ p. drop p bytes) e ∙ drop_more bytes (at + 2) 0 (omega arith) ∙ ap (λ p. byte bytes (at + 2) ∷ drop p bytes) k in
        spelt_byte (omega arith) ∙ ap (λ xs. x ∷ byte bytes (at + 1) ∷ xs) d

  abbrev pub Spelt : ℕ → Sorts → ℕ → Read → Type 0
  Spelt levels scope at r = (drop at bytes ≡ write r.query (drop r.end bytes)) × Sound levels scope r.query

  abbrev Inner : ℕ → Type 0
  Inner levels = (scope : Sorts) (at : ℕ) (r : Read) → query_at bytes levels scope at ≡ Ok r → Spelt levels scope at r

  by_command : (levels : ℕ) (scope : Sorts) (at : ℕ) (c : Command) (r : Read) → 0 < levels → Inner (levels - 1) → byte bytes at ≡ code c → at + 1 + operand_width c ≤ length bytes
      → (is_binder c && leb 8 (length scope)) ≡ false → Fine bytes scope at c → tail bytes (query_at bytes (levels - 1)) scope (at + 1 + operand_width c) (plain bytes at c) ≡ Ok r → Spelt levels scope at r
  by_command levels scope at Nothing r z inner b h fr fi e =
      let s : r ≡ record { query = none; end = at + 1 + 0 } = sym (ap (got r) e) in
      rw s (spelt_none at 0x20 b h, z)
  by_command levels scope at Document r z inner b h fr fi e =
      let s : r ≡ record { query = document (byte bytes (at + 1)); end = at + 1 + 1 } = sym (ap (got r) e) in
      rw s (spelt_byte at 0x21 b h, (z, fi))
  by_command levels scope at Single r z inner b h fr fi e =
      let s : r ≡ record { query = tree_of (byte bytes (at + 1)); end = at + 1 + 1 } = sym (ap (got r) e) in
      rw s (spelt_byte at 0x22 b h, (z, fi))
  by_command levels scope at Held r z inner b h fr fi e =
      let s : r ≡ record { query = held (byte bytes (at + 1)); end = at + 1 + 1 } = sym (ap (got r) e) in
      rw s (spelt_byte at 0x23 b h, (z, fi))
  by_command levels scope at Union r z inner b h fr fi e =
      let t = tail_two bytes (query_at bytes (levels - 1)) scope (at + 1 + 0) None both r e in
      let i = inner scope (at + 1 + 0) t.0 t.2 in
      let j = inner (with_new scope None) t.0.end t.1 t.3 in
      rw t.4 (spelt_none at 0x24 b h ∙ ap (λ xs. 0x24 ∷ xs) (i.0 ∙ ap (write t.0.query) j.0), (z, i.1, j.1))
  by_command levels scope at Scale r z inner b h fr fi e =
      let t = tail_one bytes (query_at bytes (levels - 1)) scope (at + 1 + 2) (scaled (word bytes (at + 1))) r e in
      let i = inner scope (at + 1 + 2) t.0 t.1 in
      rw t.2 (spelt_word at 0x25 b h ∙ ap (λ xs. 0x25 ∷ two_bytes (word bytes (at + 1)) xs) i.0, (z, word_small (at + 1), i.1))
  by_command levels scope at Make r z inner b h fr fi e =
      let t = tail_one bytes (query_at bytes (levels - 1)) scope (at + 1 + 2) (make (word bytes (at + 1))) r e in
      let i = inner scope (at + 1 + 2) t.0 t.1 in
      rw t.2 (spelt_word at 0x26 b h ∙ ap (λ xs. 0x26 ∷ two_bytes (word bytes (at + 1)) xs) i.0, (z, (fi, word_small (at + 1)), i.1))
  by_command levels scope at Named r z inner b h fr fi e =
      let t = tail_one bytes (query_at bytes (levels - 1)) scope (at + 1 + 1) (named (byte bytes (at + 1))) r e in
      let i = inner scope (at + 1 + 1) t.0 t.1 in
      rw t.2 (spelt_byte at 0x27 b h ∙ ap (λ xs. 0x27 ∷ byte bytes (at + 1) ∷ xs) i.0, (z, fi, i.1))
  by_command levels scope at Child r z inner b h fr fi e =
      let t = tail_one bytes (query_at bytes (levels - 1)) scope (at + 1 + 0) child r e in
      let i = inner scope (at + 1 + 0) t.0 t.1 in
      rw t.2 (spelt_none at 0x28 b h ∙ ap (λ xs. 0x28 ∷ xs) i.0, (z, i.1))
  by_command levels scope at Below r z inner b h fr fi e =
      let t = tail_one bytes (query_at bytes (levels - 1)) scope (at + 1 + 0) below r e in
      let i = inner scope (at + 1 + 0) t.0 t.1 in
      rw t.2 (spelt_none at 0x29 b h ∙ ap (λ xs. 0x29 ∷ xs) i.0, (z, i.1))
  by_command levels scope at Only r z inner b h fr fi e =
      let t = tail_one bytes (query_at bytes (levels - 1)) scope (at + 1 + 2) (only_of (word bytes (at + 1))) r e in
      let i = inner scope (at + 1 + 2) t.0 t.1 in
      rw t.2 (spelt_word at 0x2A b h ∙ ap (λ xs. 0x2A ∷ two_bytes (word bytes (at + 1)) xs) i.0, (z, (fi, word_small (at + 1)), i.1))
  by_command levels scope at For r z inner b h fr fi e =
      let t = tail_two bytes (query_at bytes (levels - 1)) scope (at + 1 + 0) (Some OfTree) for_each r e in
      let i = inner scope (at + 1 + 0) t.0 t.2 in
      let j = inner (with_new scope (Some OfTree)) t.0.end t.1 t.3 in
      rw t.4 (spelt_none at 0x2B b h ∙ ap (λ xs. 0x2B ∷ xs) (i.0 ∙ ap (write t.0.query) j.0), (z, leb-false 8 (length scope) fr, i.1, j.1))
  by_command levels scope at Let r z inner b h fr fi e =
      let t = tail_two bytes (query_at bytes (levels - 1)) scope (at + 1 + 0) (Some OfForest) let_be r e in
      let i = inner scope (at + 1 + 0) t.0 t.2 in
      let j = inner (with_new scope (Some OfForest)) t.0.end t.1 t.3 in
      rw t.4 (spelt_none at 0x2C b h ∙ ap (λ xs. 0x2C ∷ xs) (i.0 ∙ ap (write t.0.query) j.0), (z, leb-false 8 (length scope) fr, i.1, j.1))
  by_command levels scope at IfName r z inner b h fr fi e =
      let t = tail_two bytes (query_at bytes (levels - 1)) scope (at + 1 + 3) None (if_name (byte bytes (at + 1)) (word bytes (at + 2))) r e in
      let i = inner scope (at + 1 + 3) t.0 t.2 in
      let j = inner (with_new scope None) t.0.end t.1 t.3 in
      rw t.4 (spelt_name at 0x2D b h ∙ ap (λ xs. 0x2D ∷ byte bytes (at + 1) ∷ two_bytes (word bytes (at + 2)) xs) (i.0 ∙ ap (write t.0.query) j.0), (z, fi.0, (fi.1, word_small (at + 2)), i.1, j.1))
  by_command levels scope at Alike r z inner b h fr fi e =
      let t = tail_two bytes (query_at bytes (levels - 1)) scope (at + 1 + 2) None (if_alike (byte bytes (at + 1)) (byte bytes (at + 2))) r e in
      let i = inner scope (at + 1 + 2) t.0 t.2 in
      let j = inner (with_new scope None) t.0.end t.1 t.3 in
      rw t.4 (spelt_two at 0x2E b h ∙ ap (λ xs. 0x2E ∷ byte bytes (at + 1) ∷ byte bytes (at + 2) ∷ xs) (i.0 ∙ ap (write t.0.query) j.0), (z, fi.0, fi.1, i.1, j.1))

  pub spelt : (levels : ℕ) → Inner levels
  spelt zero scope at r e = let s = split bytes zero scope at r e in absurd (omega (arith, s.some))
  spelt (suc n) scope at r e =
      let s = split bytes (suc n) scope at r e in
      let g = command_good bytes at s.command s.is in
      let inner : Inner (suc n - 1) = rw (sub-one (suc n)) (spelt n) in
      by_command (suc n) scope at s.command r s.some inner (code_is (byte bytes at) s.command g.0) g.1 s.free s.fine s.parts

pub queries_exact_lem : QueriesExact 17 1024
queries_exact_lem bytes q small e =
    let a = passed (ltb 1024 (length bytes)) TooLong 0 (query_at bytes 17 [] 0 then λ r. ended_at bytes r.end r.query) q e in
    let t = then_ok (query_at bytes 17 [] 0) (λ r. ended_at bytes r.end r.query) q a.1 in
    let f = passed (ltb t.0.end (length bytes)) BytesLeft t.0.end (Ok t.0.query) q t.2 in
    let same : t.0.query ≡ q = ap (got q) f.1 in
    let l : length bytes ≤ t.0.end = ltb-false t.0.end (length bytes) f.0 in
    let s = spelt bytes small 17 [] 0 t.0 t.1 in
    let spelled : bytes ≡ write_query q = s.0 ∙ ap (write t.0.query) (drop_of_length-le bytes l) ∙ ap write_query same in
    (spelled, record { sound = rw same at s.1; short = rw spelled at (ltb-false 1024 (length bytes) a.0) })
