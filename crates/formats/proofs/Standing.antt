-- A query that stands at an offset: what a good reading tells of the command there, and of the queries that follow it.
use Rattle.std.proofs.Common.{◌≡◌, ℕ, zero, suc, ◌+◌, ◌-◌, ◌<◌, ◌≤◌, true, false, not, ◌&&◌, eqb, ltb, leb, List, length, Some, None, Ok, Err, Option, sym, ap, ◌∙◌, sub-one, arith}
use Rattle.std.proofs.lemmas.Bool.{ltb-false, eqb-false, not-false}
use Rattle.formats.specs.declared.refusals.Refusal.TheVariants.{NoSuchSlot, LabelZero, NotBound, TooDeep, CutShort}
use Rattle.formats.specs.declared.commands.Command.{Command}
use Rattle.formats.specs.declared.commands.Command.TheVariants.{Nothing, Document, Single, Held, Union, Scale, Make, Named, Child, Below, Only, For, Let, IfName, Alike}
use Rattle.formats.specs.declared.commands.Sort.{Sort}
use Rattle.formats.specs.declared.commands.Sort.TheVariants.{OfTree, OfForest}
use Rattle.formats.specs.Queries.{Query, none, document, tree_of, held, both, scaled, make, named, child, below, only_of, for_each, let_be, if_name, if_alike}
use Rattle.formats.specs.Reading.{Reading, refuse, refuse_if, ◌then◌, byte, word}
use Rattle.formats.specs.QueryBytes.{Sorts, Read, Head, whole, of_one, of_two, command_of, operand_width, is_binder, is_bound, with_new, known_at, command_at, slot_at, label_at, variable_at, head, tail, until, query_at}
use Rattle.formats.proofs.Readings.{passed, then_ok}

abbrev unwrapped : {X : Type 0} → X → Reading X → X
unwrapped d (Ok x) = x
unwrapped d (Err f) = d

module _ (bytes : List ℕ) where
  -- the head of a command whose operands are good
  abbrev pub plain : ℕ → Command → Head
  plain at Nothing = whole none
  plain at Document = whole (document (byte bytes (at + 1)))
  plain at Single = whole (tree_of (byte bytes (at + 1)))
  plain at Held = whole (held (byte bytes (at + 1)))
  plain at Union = of_two None both
  plain at Scale = of_one (scaled (word bytes (at + 1)))
  plain at Make = of_one (make (word bytes (at + 1)))
  plain at Named = of_one (named (byte bytes (at + 1)))
  plain at Child = of_one child
  plain at Below = of_one below
  plain at Only = of_one (only_of (word bytes (at + 1)))
  plain at For = of_two (Some OfTree) for_each
  plain at Let = of_two (Some OfForest) let_be
  plain at IfName = of_two None (if_name (byte bytes (at + 1)) (word bytes (at + 2)))
  plain at Alike = of_two None (if_alike (byte bytes (at + 1)) (byte bytes (at + 2)))

  -- what holds of good operands
  abbrev pub Fine : Sorts → ℕ → Command → Type 0
  Fine scope at Nothing = Unit {0}
  Fine scope at Document = byte bytes (at + 1) ≤ 15
  Fine scope at Single = is_bound scope (byte bytes (at + 1)) OfTree ≡ true
  Fine scope at Held = is_bound scope (byte bytes (at + 1)) OfForest ≡ true
  Fine scope at Union = Unit {0}
  Fine scope at Scale = Unit {0}
  Fine scope at Make = 0 < word bytes (at + 1)
  Fine scope at Named = is_bound scope (byte bytes (at + 1)) OfTree ≡ true
  Fine scope at Child = Unit {0}
  Fine scope at Below = Unit {0}
  Fine scope at Only = 0 < word bytes (at + 1)
  Fine scope at For = Unit {0}
  Fine scope at Let = Unit {0}
  Fine scope at IfName = (is_bound scope (byte bytes (at + 1)) OfTree ≡ true) × (0 < word bytes (at + 2))
  Fine scope at Alike = (is_bound scope (byte bytes (at + 1)) OfTree ≡ true) × (is_bound scope (byte bytes (at + 2)) OfTree ≡ true)

  slot_good : (at p s : ℕ) → slot_at bytes at p ≡ Ok s → (s ≡ byte bytes p) × (byte bytes p ≤ 15)
  slot_good at p s e =
      let q = passed (ltb 15 (byte bytes p)) NoSuchSlot at (Ok (byte bytes p)) s e in
      let f = q.1 in (cc, ltb-false 15 (byte bytes p) q.0)

  label_good : (at p l : ℕ) → label_at bytes at p ≡ Ok l → (l ≡ word bytes p) × (0 < word bytes p)
  label_good at p l e =
      let q = passed (eqb (word bytes p) 0) LabelZero at (Ok (word bytes p)) l e in
      let f = q.1 in (cc, omega (arith, eqb-false (word bytes p) 0 q.0))

  variable_good : (at : ℕ) (scope : Sorts) (s : Sort) (p v : ℕ) → variable_at bytes at scope s p ≡ Ok v → (v ≡ byte bytes p) × (is_bound scope (byte bytes p) s ≡ true)
  variable_good at scope s p v e =
      let q = passed (not (is_bound scope (byte bytes p) s)) NotBound at (Ok (byte bytes p)) v e in
      let f = q.1 in (cc, not-false (is_bound scope (byte bytes p) s) q.0)

  pub head_good : (scope : Sorts) (at : ℕ) (c : Command) (h : Head) → head bytes scope at c ≡ Ok h → (h ≡ plain at c) × Fine scope at c
  head_good scope at Nothing h e = (cc, tt)
  head_good scope at Document h e =
      let t = then_ok (slot_at bytes at (at + 1)) (λ x. Ok (whole (document x))) h e in
      let g = slot_good at (at + 1) t.0 t.1 in
      (sym (ap (unwrapped h) t.2) ∙ ap (λ x. whole (document x)) g.0, g.1)
  head_good scope at Single h e =
      let t = then_ok (variable_at bytes at scope OfTree (at + 1)) (λ x. Ok (whole (tree_of x))) h e in
      let g = variable_good at scope OfTree (at + 1) t.0 t.1 in
      (sym (ap (unwrapped h) t.2) ∙ ap (λ x. whole (tree_of x)) g.0, g.1)
  head_good scope at Held h e =
      let t = then_ok (variable_at bytes at scope OfForest (at + 1)) (λ x. Ok (whole (held x))) h e in
      let g = variable_good at scope OfForest (at + 1) t.0 t.1 in
      (sym (ap (unwrapped h) t.2) ∙ ap (λ x. whole (held x)) g.0, g.1)
  head_good scope at Union h e = (cc, tt)
  head_good scope at Scale h e = (cc, tt)
  head_good scope at Make h e =
      let t = then_ok (label_at bytes at (at + 1)) (λ x. Ok (of_one (make x))) h e in
      let g = label_good at (at + 1) t.0 t.1 in
      (sym (ap (unwrapped h) t.2) ∙ ap (λ x. of_one (make x)) g.0, g.1)
  head_good scope at Named h e =
      let t = then_ok (variable_at bytes at scope OfTree (at + 1)) (λ x. Ok (of_one (named x))) h e in
      let g = variable_good at scope OfTree (at + 1) t.0 t.1 in
      (sym (ap (unwrapped h) t.2) ∙ ap (λ x. of_one (named x)) g.0, g.1)
  head_good scope at Child h e = (cc, tt)
  head_good scope at Below h e = (cc, tt)
  head_good scope at Only h e =
      let t = then_ok (label_at bytes at (at + 1)) (λ x. Ok (of_one (only_of x))) h e in
      let g = label_good at (at + 1) t.0 t.1 in
      (sym (ap (unwrapped h) t.2) ∙ ap (λ x. of_one (only_of x)) g.0, g.1)
  head_good scope at For h e = (cc, tt)
  head_good scope at Let h e = (cc, tt)
  head_good scope at IfName h e =
      let t = then_ok (variable_at bytes at scope OfTree (at + 1)) (λ v. label_at bytes at (at + 2) then λ w. Ok (of_two None (if_name v w))) h e in
      let u = then_ok (label_at bytes at (at + 2)) (λ w. Ok (of_two None (if_name t.0 w))) h t.2 in
      let g = variable_good at scope OfTree (at + 1) t.0 t.1 in
      let k = label_good at (at + 2) u.0 u.1 in
      (sym (ap (unwrapped h) u.2) ∙ ap (λ v. of_two None (if_name v u.0)) g.0 ∙ ap (λ w. of_two None (if_name (byte bytes (at + 1)) w)) k.0, (g.1, k.1))
  head_good scope at Alike h e =
      let t = then_ok (variable_at bytes at scope OfTree (at + 1)) (λ v. variable_at bytes at scope OfTree (at + 2) then λ w. Ok (of_two None (if_alike v w))) h e in
      let u = then_ok (variable_at bytes at scope OfTree (at + 2)) (λ w. Ok (of_two None (if_alike t.0 w))) h t.2 in
      let g = variable_good at scope OfTree (at + 1) t.0 t.1 in
      let k = variable_good at scope OfTree (at + 2) u.0 u.1 in
      (sym (ap (unwrapped h) u.2) ∙ ap (λ v. of_two None (if_alike v u.0)) g.0 ∙ ap (λ w. of_two None (if_alike (byte bytes (at + 1)) w)) k.0, (g.1, k.1))

  pub command_good : (at : ℕ) (c : Command) → command_at bytes at ≡ Ok c → (command_of (byte bytes at) ≡ Some c) × (at + 1 + operand_width c ≤ length bytes)
  command_good at c e = known (command_of (byte bytes at)) (passed (leb (length bytes) at) CutShort at (known_at bytes at (command_of (byte bytes at))) c e).1
    where
      known : (o : Option Command) → known_at bytes at o ≡ Ok c → (o ≡ Some c) × (at + 1 + operand_width c ≤ length bytes)
      known None e = let z : ◌≡◌ {A = ℕ} 0 1 = cc in absurd (omega arith)
      known (Some d) e =
          let p = passed (ltb (length bytes) (at + 1 + operand_width d)) CutShort at (Ok d) c e in
          let same : d ≡ c = cc in
          (ap Some same, rw (sym same) (ltb-false (length bytes) (at + 1 + operand_width d) p.0))

  -- What a good reading says of the command at its start.
  pub record Split (levels : ℕ) (scope : Sorts) (at : ℕ) (r : Read) : Type 0 where
    pub command : Command
    pub is : command_at bytes at ≡ Ok command
    pub some : 0 < levels
    pub free : (is_binder command && leb 8 (length scope)) ≡ false
    pub fine : Fine scope at command
    pub parts : tail bytes (query_at bytes (levels - 1)) scope (at + 1 + operand_width command) (plain at command) ≡ Ok r

  pub split : (levels : ℕ) (scope : Sorts) (at : ℕ) (r : Read) → query_at bytes levels scope at ≡ Ok r → Split levels scope at r
  unfolding query_at
  split zero scope at r e =
      let t = then_ok (command_at bytes at) (λ c. refuse TooDeep at) r e in
      let f = t.2 in
      let z : ◌≡◌ {A = ℕ} 0 1 = cc in absurd (omega arith)
  split (suc n) scope at r e =
      let t = then_ok (command_at bytes at) (λ c. refuse_if (is_binder c && leb 8 (length scope)) TooDeep at (head bytes scope at c then tail bytes (query_at bytes n) scope (at + 1 + operand_width c))) r e in
      let p = passed (is_binder t.0 && leb 8 (length scope)) TooDeep at (head bytes scope at t.0 then tail bytes (query_at bytes n) scope (at + 1 + operand_width t.0)) r t.2 in
      let h = then_ok (head bytes scope at t.0) (tail bytes (query_at bytes n) scope (at + 1 + operand_width t.0)) r p.1 in
      let g = head_good scope at t.0 h.0 h.1 in
      record {
        command = t.0;
        is = t.1;
        some = omega arith;
        free = p.0;
        fine = g.1;
        parts = rw (sub-one (suc n)) (rw g.0 at h.2);
      }

  -- the queries that follow a head
  pub tail_one : (query : Sorts → ℕ → Reading Read) (scope : Sorts) (at : ℕ) (k : Query → Query) (r : Read) → tail bytes query scope at (of_one k) ≡ Ok r
      → (e : Read) × (query scope at ≡ Ok e) × (r ≡ record { query = k e.query; end = e.end })
  tail_one query scope at k r h =
      let t = then_ok (query scope at) (λ e. until e.end (k e.query)) r h in
      (t.0, t.1, sym (ap (unwrapped r) t.2))

  pub tail_two : (query : Sorts → ℕ → Reading Read) (scope : Sorts) (at : ℕ) (new : Option Sort) (k : Query → Query → Query) (r : Read) → tail bytes query scope at (of_two new k) ≡ Ok r
      → (e : Read) × (f : Read) × (query scope at ≡ Ok e) × (query (with_new scope new) e.end ≡ Ok f) × (r ≡ record { query = k e.query f.query; end = f.end })
  tail_two query scope at new k r h =
      let t = then_ok (query scope at) (λ e. query (with_new scope new) e.end then λ f. until f.end (k e.query f.query)) r h in
      let u = then_ok (query (with_new scope new) t.0.end) (λ f. until f.end (k t.0.query f.query)) r t.2 in
      (t.0, u.0, t.1, u.1, sym (ap (unwrapped r) u.2))
