-- What is written of a query reads back.
use Rattle.std.proofs.Common.{◌≡◌, ℕ, zero, suc, ◌+◌, ◌-◌, ◌<◌, ◌≤◌, true, false, ◌&&◌, eqb, ltb, leb, List, [], ◌∷◌, length, drop, Some, None, Ok, Option, refl, ◌∙◌, sub-one, arith}
use Rattle.std.proofs.lemmas.Bool.{le-ltb, lt-leb, ne_eqb}
use Rattle.formats.specs.declared.commands.Command.{Command}
use Rattle.formats.specs.declared.commands.Command.TheVariants.{Nothing, Document, Single, Held, Union, Scale, Make, Named, Child, Below, Only, For, Let, IfName, Alike}
use Rattle.formats.specs.declared.commands.Sort.{Sort}
use Rattle.formats.specs.declared.commands.Sort.TheVariants.{OfTree, OfForest}
use Rattle.formats.specs.Queries.{Query, none, document, tree_of, held, both, scaled, make, named, child, below, only_of, for_each, let_be, if_name, if_alike}
use Rattle.formats.specs.Reading.{byte, word}
use Rattle.formats.specs.QueryBytes.{Sorts, Head, whole, of_one, of_two, command_of, operand_width, is_binder, is_bound, with_new, command_at, slot_at, label_at, variable_at, head, tail, until, query_at}
use Rattle.formats.specs.Writing.{two_bytes, write, write_query, Sound}
use Rattle.formats.specs.Laws.{QueriesReadBack}
use Rattle.formats.proofs.ReadBack.{next, two, ended}

module _ (bytes : List ℕ) where
  command_is : (at : ℕ) (c : Command) (x : ℕ) → byte bytes at ≡ x → command_of x ≡ Some c → at + 1 + operand_width c ≤ length bytes → command_at bytes at ≡ Ok c
  command_is at c x b o h =
      let p : leb (length bytes) at ≡ false = lt-leb (length bytes) at (omega arith) in
      let q : ltb (length bytes) (at + 1 + operand_width c) ≡ false = le-ltb (length bytes) (at + 1 + operand_width c) h in
      rw (p, b, o, q) refl

  slot_is : (at p s : ℕ) → byte bytes p ≡ s → s ≤ 15 → slot_at bytes at p ≡ Ok s
  slot_is at p s b h = let q : ltb 15 s ≡ false = le-ltb 15 s h in rw (b, q) refl

  label_is : (at p l : ℕ) → word bytes p ≡ l → 0 < l → label_at bytes at p ≡ Ok l
  label_is at p l b h = let q : eqb l 0 ≡ false = ne_eqb l 0 (λ z. omega arith) in rw (b, q) refl

  variable_is : (at : ℕ) (scope : Sorts) (s : Sort) (p v : ℕ) → byte bytes p ≡ v → is_bound scope v s ≡ true → variable_at bytes at scope s p ≡ Ok v
  variable_is at scope s p v b h = rw (b, h) refl

  go : (levels : ℕ) (scope : Sorts) (at : ℕ) (c : Command) (h : Head) → 0 < levels → command_at bytes at ≡ Ok c → (is_binder c && leb 8 (length scope)) ≡ false → head bytes scope at c ≡ Ok h
      → query_at bytes levels scope at ≡ tail bytes (query_at bytes (levels - 1)) scope (at + 1 + operand_width c) h
  unfolding query_at
  go zero scope at c h z e b k = absurd (omega arith)
  go (suc n) scope at c h z e b k = rw (sub-one (suc n), e, b, k) refl

  -- a query stands at an offset, and then others
  pub record Stands (levels : ℕ) (scope : Sorts) (at : ℕ) (q : Query) (rest : List ℕ) : Type 0 where
    pub end : ℕ
    pub left : drop end bytes ≡ rest
    pub same : query_at bytes levels scope at ≡ until end q

  module _ (levels : ℕ) (scope : Sorts) (at : ℕ) (c : Command) (z : 0 < levels) (e : command_at bytes at ≡ Ok c) (b : (is_binder c && leb 8 (length scope)) ≡ false) where
    stands_whole : (q : Query) (rest : List ℕ) → head bytes scope at c ≡ Ok (whole q) → drop (at + 1 + operand_width c) bytes ≡ rest → Stands levels scope at q rest
    stands_whole q rest k d = record { end = at + 1 + operand_width c; left = d; same = go levels scope at c (whole q) z e b k }

    stands_one : (k : Query → Query) (q : Query) (rest : List ℕ) → head bytes scope at c ≡ Ok (of_one k) → Stands (levels - 1) scope (at + 1 + operand_width c) q rest → Stands levels scope at (k q) rest
    stands_one k q rest h s = record { end = s.end; left = s.left; same = go levels scope at c (of_one k) z e b h ∙ rw s.same refl }

    stands_two : (new : Option Sort) (k : Query → Query → Query) (p q : Query) (mid rest : List ℕ) → head bytes scope at c ≡ Ok (of_two new k)
        → (s : Stands (levels - 1) scope (at + 1 + operand_width c) p mid) → Stands (levels - 1) (with_new scope new) s.end q rest → Stands levels scope at (k p q) rest
    stands_two new k p q mid rest h s t = record { end = t.end; left = t.left; same = go levels scope at c (of_two new k) z e b h ∙ rw (s.same, t.same) refl }

  module _ (at : ℕ) where
    -- the offsets as a command's operand_width gives them
    no_operand : {xs : List ℕ} → drop (at + 1) bytes ≡ xs → drop (at + 1 + 0) bytes ≡ xs
    no_operand d = let e : at + 1 + 0 ≡ at + 1 = omega arith in rw e d

    open_none : (x : ℕ) (c : Command) (xs : List ℕ) → command_of x ≡ Some c → operand_width c ≡ 0 → drop at bytes ≡ x ∷ xs → (command_at bytes at ≡ Ok c) × (drop (at + 1 + operand_width c) bytes ≡ xs)
    open_none x c xs o w d =
        let n = next bytes at x xs d in
        (command_is at c x n.here o (omega (arith, n.inside)), rw w (no_operand n.rest))

    open_byte : (x : ℕ) (c : Command) (v : ℕ) (xs : List ℕ) → command_of x ≡ Some c → operand_width c ≡ 1 → drop at bytes ≡ x ∷ v ∷ xs
        → (command_at bytes at ≡ Ok c) × (byte bytes (at + 1) ≡ v) × (drop (at + 1 + operand_width c) bytes ≡ xs)
    open_byte x c v xs o w d =
        let n = next bytes at x (v ∷ xs) d in
        let m = next bytes (at + 1) v xs n.rest in
        (command_is at c x n.here o (omega (arith, m.inside)), m.here, rw w m.rest)

    open_word : (x : ℕ) (c : Command) (l : ℕ) (xs : List ℕ) → command_of x ≡ Some c → operand_width c ≡ 2 → drop at bytes ≡ x ∷ two_bytes l xs
        → (command_at bytes at ≡ Ok c) × (word bytes (at + 1) ≡ l) × (drop (at + 1 + operand_width c) bytes ≡ xs)
    open_word x c l xs o w d =
        let n = next bytes at x (two_bytes l xs) d in
        let m = two bytes (at + 1) l xs n.rest in
        (command_is at c x n.here o (omega (arith, m.1)), m.0, rw w m.2)

    open_name : (l v : ℕ) (xs : List ℕ) → drop at bytes ≡ 0x2D ∷ v ∷ two_bytes l xs
        → (command_at bytes at ≡ Ok IfName) × (byte bytes (at + 1) ≡ v) × (word bytes (at + 2) ≡ l) × (drop (at + 1 + 3) bytes ≡ xs)
    open_name l v xs d =
        let n = next bytes at 0x2D (v ∷ two_bytes l xs) d in
        let m = next bytes (at + 1) v (two_bytes l xs) n.rest in
        let e2 : at + 1 + 1 ≡ at + 2 = omega arith in
        let k = two bytes (at + 2) l xs (rw e2 at m.rest) in
        let e4 : at + 2 + 2 ≡ at + 1 + 3 = omega arith in
        (command_is at IfName 0x2D n.here refl (omega (arith, k.1)), m.here, k.0, rw e4 at k.2)

    open_alike : (v w : ℕ) (xs : List ℕ) → drop at bytes ≡ 0x2E ∷ v ∷ w ∷ xs
        → (command_at bytes at ≡ Ok Alike) × (byte bytes (at + 1) ≡ v) × (byte bytes (at + 2) ≡ w) × (drop (at + 1 + 2) bytes ≡ xs)
    open_alike v w xs d =
        let n = next bytes at 0x2E (v ∷ w ∷ xs) d in
        let m = next bytes (at + 1) v (w ∷ xs) n.rest in
        let e2 : at + 1 + 1 ≡ at + 2 = omega arith in
        let k = next bytes (at + 2) w xs (rw e2 at m.rest) in
        let e3 : at + 2 + 1 ≡ at + 1 + 2 = omega arith in
        (command_is at Alike 0x2E n.here refl (omega (arith, k.inside)), m.here, k.here, rw e3 at k.rest)

  free : (scope : Sorts) → length scope < 8 → leb 8 (length scope) ≡ false
  free scope h = lt-leb 8 (length scope) h

  pub reads_query : (q : Query) (levels : ℕ) (scope : Sorts) (at : ℕ) (rest : List ℕ) → Sound levels scope q → drop at bytes ≡ write q rest → Stands levels scope at q rest
  reads_query none levels scope at rest p d =
      let o = open_none at 0x20 Nothing rest refl refl d in
      stands_whole levels scope at Nothing p o.0 refl none rest refl o.1
  reads_query (document s) levels scope at rest p d =
      let o = open_byte at 0x21 Document s rest refl refl d in
      stands_whole levels scope at Document p.0 o.0 refl (document s) rest (rw (slot_is at (at + 1) s o.1 p.1) refl) o.2
  reads_query (tree_of v) levels scope at rest p d =
      let o = open_byte at 0x22 Single v rest refl refl d in
      stands_whole levels scope at Single p.0 o.0 refl (tree_of v) rest (rw (variable_is at scope OfTree (at + 1) v o.1 p.1) refl) o.2
  reads_query (held v) levels scope at rest p d =
      let o = open_byte at 0x23 Held v rest refl refl d in
      stands_whole levels scope at Held p.0 o.0 refl (held v) rest (rw (variable_is at scope OfForest (at + 1) v o.1 p.1) refl) o.2
  reads_query (both e f) levels scope at rest p d =
      let o = open_none at 0x24 Union (write e (write f rest)) refl refl d in
      let s = reads_query e (levels - 1) scope (at + 1 + 0) (write f rest) p.1 o.1 in
      stands_two levels scope at Union p.0 o.0 refl None both e f (write f rest) rest refl s (reads_query f (levels - 1) scope s.end rest p.2 s.left)
  reads_query (scaled i e) levels scope at rest p d =
      let o = open_word at 0x25 Scale i (write e rest) refl refl d in
      stands_one levels scope at Scale p.0 o.0 refl (scaled i) e rest (rw o.1 refl) (reads_query e (levels - 1) scope (at + 1 + 2) rest p.2 o.2)
  reads_query (make l e) levels scope at rest p d =
      let o = open_word at 0x26 Make l (write e rest) refl refl d in
      stands_one levels scope at Make p.0 o.0 refl (make l) e rest (rw (label_is at (at + 1) l o.1 p.1.0) refl) (reads_query e (levels - 1) scope (at + 1 + 2) rest p.2 o.2)
  reads_query (named v e) levels scope at rest p d =
      let o = open_byte at 0x27 Named v (write e rest) refl refl d in
      stands_one levels scope at Named p.0 o.0 refl (named v) e rest (rw (variable_is at scope OfTree (at + 1) v o.1 p.1) refl) (reads_query e (levels - 1) scope (at + 1 + 1) rest p.2 o.2)
  reads_query (child e) levels scope at rest p d =
      let o = open_none at 0x28 Child (write e rest) refl refl d in
      stands_one levels scope at Child p.0 o.0 refl child e rest refl (reads_query e (levels - 1) scope (at + 1 + 0) rest p.1 o.1)
  reads_query (below e) levels scope at rest p d =
      let o = open_none at 0x29 Below (write e rest) refl refl d in
      stands_one levels scope at Below p.0 o.0 refl below e rest refl (reads_query e (levels - 1) scope (at + 1 + 0) rest p.1 o.1)
  reads_query (only_of l e) levels scope at rest p d =
      let o = open_word at 0x2A Only l (write e rest) refl refl d in
      stands_one levels scope at Only p.0 o.0 refl (only_of l) e rest (rw (label_is at (at + 1) l o.1 p.1.0) refl) (reads_query e (levels - 1) scope (at + 1 + 2) rest p.2 o.2)
  reads_query (for_each e f) levels scope at rest p d =
      let o = open_none at 0x2B For (write e (write f rest)) refl refl d in
      let s = reads_query e (levels - 1) scope (at + 1 + 0) (write f rest) p.2 o.1 in
      stands_two levels scope at For p.0 o.0 (free scope p.1) (Some OfTree) for_each e f (write f rest) rest refl s
      (reads_query f (levels - 1) (with_new scope (Some OfTree)) s.end rest p.3 s.left)
  reads_query (let_be e f) levels scope at rest p d =
      let o = open_none at 0x2C Let (write e (write f rest)) refl refl d in
      let s = reads_query e (levels - 1) scope (at + 1 + 0) (write f rest) p.2 o.1 in
      stands_two levels scope at Let p.0 o.0 (free scope p.1) (Some OfForest) let_be e f (write f rest) rest refl s
      (reads_query f (levels - 1) (with_new scope (Some OfForest)) s.end rest p.3 s.left)
  reads_query (if_name v l e f) levels scope at rest p d =
      let o = open_name at l v (write e (write f rest)) d in
      let s = reads_query e (levels - 1) scope (at + 1 + 3) (write f rest) p.3 o.3 in
      stands_two levels scope at IfName p.0 o.0 refl None (if_name v l) e f (write f rest) rest
      (rw (variable_is at scope OfTree (at + 1) v o.1 p.1, label_is at (at + 2) l o.2 p.2.0) refl) s (reads_query f (levels - 1) scope s.end rest p.4 s.left)
  reads_query (if_alike v w e f) levels scope at rest p d =
      let o = open_alike at v w (write e (write f rest)) d in
      let s = reads_query e (levels - 1) scope (at + 1 + 2) (write f rest) p.3 o.3 in
      stands_two levels scope at Alike p.0 o.0 refl None (if_alike v w) e f (write f rest) rest
      (rw (variable_is at scope OfTree (at + 1) v o.1 p.1, variable_is at scope OfTree (at + 2) w o.2 p.2) refl) s (reads_query f (levels - 1) scope s.end rest p.4 s.left)

pub queries_read_back_lem : QueriesReadBack 17 1024
queries_read_back_lem q w =
    let bytes = write_query q in
    let e : ltb 1024 (length bytes) ≡ false = le-ltb 1024 (length bytes) w.short in
    let s = reads_query bytes q 17 [] 0 [] w.sound refl in
    rw (e, s.same) (ended bytes s.end q s.left)
