-- What is written reads back.
use Rattle.std.proofs.Common.{◌≡◌, ℕ, zero, suc, ◌+◌, ◌-◌, ◌/◌, ◌%◌, ◌<◌, ◌≤◌, false, ltb, List, [], ◌∷◌, length, drop, Ok, sym, refl, ap, ◌∙◌, add-one, arith, length-drop}
use native.Mathlib.Nat.{div-add-mod}
use Rattle.std.proofs.lemmas.Bool.{le-ltb}
use Rattle.formats.specs.declared.events.Event.TheVariants.{Opens, Closes, Ends}
use Rattle.formats.specs.Trees.{Tree, Forest, tree, empty, entry, beside}
use Rattle.formats.specs.Reading.{byte, word, ended_at}
use Rattle.formats.specs.Documents.{Open, event, commands, closed}
use Rattle.formats.specs.Writing.{two_bytes, write_tree, write_forest, write_document, Proper, ProperTree, Item}
use Rattle.formats.specs.Laws.{DocumentsReadBack}

-- the next of the bytes from an offset on
pub record Next (bytes : List ℕ) (at x : ℕ) (xs : List ℕ) : Type 0 where
  pub here : byte bytes at ≡ x
  pub inside : at < length bytes
  pub rest : drop (at + 1) bytes ≡ xs

pub next : (bytes : List ℕ) (at x : ℕ) (xs : List ℕ) → drop at bytes ≡ x ∷ xs → Next bytes at x xs
next [] zero x xs e = let w : ◌≡◌ {A = ℕ} 0 1 = cc in absurd (omega arith)
next [] (suc at) x xs e = let w : ◌≡◌ {A = ℕ} 0 1 = cc in absurd (omega arith)
next (b ∷ bs) zero x xs e = record { here = cc; inside = omega arith; rest = cc }
next (b ∷ bs) (suc at) x xs e =
    let n = next bs at x xs e in
    record { here = n.here; inside = omega arith; rest = rw (add-one (suc at)) (rw (add-one at) at n.rest) }

module _ (bytes : List ℕ) (items : ℕ) where
  event_opens : (at depth l i : ℕ) → byte bytes at ≡ 0x10 → at + 5 ≤ length bytes → depth < 32 → word bytes (at + 1) ≡ l → 0 < l → word bytes (at + 3) ≡ i → i < items
      → event bytes items at depth ≡ Ok (Opens l i)
  event_opens at depth l i b h d p q r s = grind arith

  event_closes : (at depth : ℕ) → byte bytes at ≡ 0x11 → at < length bytes → 0 < depth → event bytes items at depth ≡ Ok Closes
  event_closes at depth b h d = grind arith

  event_ends : (at depth : ℕ) → byte bytes at ≡ 0x1F → at < length bytes → depth ≡ 0 → event bytes items at depth ≡ Ok Ends
  event_ends at depth b h d = grind arith

-- the next two bytes
pub two : (bytes : List ℕ) (at n : ℕ) (xs : List ℕ) → drop at bytes ≡ two_bytes n xs → (word bytes at ≡ n) × (at + 1 < length bytes) × (drop (at + 2) bytes ≡ xs)
two bytes at n xs e =
    let a = next bytes at (n / 256) ((n % 256) ∷ xs) e in
    let b = next bytes (at + 1) (n % 256) xs a.rest in
    let s : at + 1 + 1 ≡ at + 2 = omega arith in
    (rw (a.here, b.here) (div-add-mod n 256), b.inside, rw s at b.rest)

-- The turns that reading a forest takes, and n more.
abbrev mutual
  turns_tree : Tree ℕ → ℕ → ℕ
  turns_tree (tree l f) n = suc (turns f (suc n))

  turns : Forest ℕ → ℕ → ℕ
  turns empty n = n
  turns (entry t i f) n = turns_tree t (turns f n)

mutual
  turns_tree_add : (t : Tree ℕ) (n : ℕ) → turns_tree t n ≡ turns_tree t 0 + n
  turns_tree_add (tree l f) n = omega (arith, turns_add f (suc n), turns_add f 1)

  turns_add : (f : Forest ℕ) (n : ℕ) → turns f n ≡ turns f 0 + n
  turns_add empty n = omega arith
  turns_add (entry t i f) n = omega (arith, turns_tree_add t (turns f n), turns_tree_add t (turns f 0), turns_add f n)

mutual
  turns_tree_length : (t : Tree ℕ) (i : ℕ) (rest : List ℕ) → turns_tree t 0 + length rest ≤ length (write_tree t i rest)
  turns_tree_length (tree l f) i rest = omega (arith, turns_length f (0x11 ∷ rest), turns_add f 1)

  turns_length : (f : Forest ℕ) (rest : List ℕ) → turns f 0 + length rest ≤ length (write_forest f rest)
  turns_length empty rest = omega arith
  turns_length (entry t i f) rest =
      omega (arith, turns_tree_length t i (write_forest f rest), turns_length f rest, turns_tree_add t (turns f 0))

pub beside_last : (g : Forest ℕ) (t : Tree ℕ) (i : ℕ) (f : Forest ℕ) → beside (beside g (entry t i empty)) f ≡ beside g (entry t i f)
beside_last empty t i f = refl
beside_last (entry u j g) t i f = ap (entry u j) (beside_last g t i f)

pub beside_empty : (g : Forest ℕ) → beside g empty ≡ g
beside_empty empty = refl
beside_empty (entry t i g) = ap (entry t i) (beside_empty g)

module _ (bytes : List ℕ) (items : ℕ) where
  -- how reading goes on after what was written
  pub record GoesOn (before : ℕ) (at : ℕ) (outer : List Open) (here : Forest ℕ) (after : ℕ) (then_here : Forest ℕ) (rest : List ℕ) : Type 0 where
    pub end : ℕ
    pub left : drop end bytes ≡ rest
    pub same : commands bytes items before at outer here ≡ commands bytes items after end outer then_here

  go_open : (n at : ℕ) (outer : List Open) (here : Forest ℕ) (l i : ℕ) → event bytes items at (length outer) ≡ Ok (Opens l i)
      → commands bytes items (suc n) at outer here ≡ commands bytes items n (at + 5) (record { label = l; item = i; elder = here } ∷ outer) empty
  unfolding commands
  go_open n at outer here l i e = rw e refl

  go_close : (n at : ℕ) (o : Open) (outer : List Open) (here : Forest ℕ) → event bytes items at (length (o ∷ outer)) ≡ Ok Closes
      → commands bytes items (suc n) at (o ∷ outer) here ≡ commands bytes items n (at + 1) outer (closed o here)
  unfolding commands
  go_close n at o outer here e = rw e refl

  go_end : (n at : ℕ) (here : Forest ℕ) → event bytes items at 0 ≡ Ok Ends → commands bytes items (suc n) at [] here ≡ ended_at bytes (at + 1) here
  unfolding commands
  go_end n at here e = rw e refl

  mutual
    reads_tree : (t : Tree ℕ) (i n at levels : ℕ) (outer : List Open) (here : Forest ℕ) (rest : List ℕ)
        → ProperTree items levels t → Item items i → levels + length outer ≤ 32 → drop at bytes ≡ write_tree t i rest
        → GoesOn (turns_tree t n) at outer here n (beside here (entry t i empty)) rest
    reads_tree (tree l f) i n at levels outer here rest p q fit d =
        let b = next bytes at 0x10 (two_bytes l (two_bytes i (write_forest f (0x11 ∷ rest)))) d in
        let wl = two bytes (at + 1) l (two_bytes i (write_forest f (0x11 ∷ rest))) b.rest in
        let e3 : at + 1 + 2 ≡ at + 3 = omega arith in
        let wi = two bytes (at + 3) i (write_forest f (0x11 ∷ rest)) (rw e3 at wl.2) in
        let e5 : at + 3 + 2 ≡ at + 5 = omega arith in
        let ev = event_opens bytes items at (length outer) l i b.here (omega (arith, wi.1)) (omega arith) wl.0 p.1.0 wi.0 q.0 in
        let o : Open = record { label = l; item = i; elder = here } in
        let g = reads_forest f (suc n) (at + 5) (levels - 1) (o ∷ outer) empty (0x11 ∷ rest) p.2 (omega arith) (rw e5 at wi.2) in
        let c = next bytes g.end 0x11 rest g.left in
        record {
          end = g.end + 1;
          left = c.rest;
          same = go_open (turns f (suc n)) at outer here l i ev ∙ g.same ∙ go_close n g.end o outer f (event_closes bytes items g.end (length (o ∷ outer)) c.here c.inside (omega arith));
        }

    reads_forest : (f : Forest ℕ) (n at levels : ℕ) (outer : List Open) (here : Forest ℕ) (rest : List ℕ)
        → Proper items levels f → levels + length outer ≤ 32 → drop at bytes ≡ write_forest f rest
        → GoesOn (turns f n) at outer here n (beside here f) rest
    reads_forest empty n at levels outer here rest p fit d = record { end = at; left = d; same = ap (commands bytes items n at outer) (sym (beside_empty here)) }
    reads_forest (entry t i f) n at levels outer here rest p fit d =
        let g = reads_tree t i (turns f n) at levels outer here (write_forest f rest) p.0 p.1 fit d in
        let h = reads_forest f n g.end levels outer (beside here (entry t i empty)) rest p.2 fit g.left in
        record { end = h.end; left = h.left; same = g.same ∙ h.same ∙ ap (commands bytes items n h.end outer) (beside_last here t i f) }

nothing_left : (bytes : List ℕ) (at : ℕ) → drop at bytes ≡ [] → length bytes ≤ at
nothing_left bytes at e = omega (arith, length-drop at bytes, ap length e)

pub ended : {X : Type 0} (bytes : List ℕ) (at : ℕ) (x : X) → drop at bytes ≡ [] → ended_at bytes at x ≡ Ok x
ended bytes at x e = let n : ltb at (length bytes) ≡ false = le-ltb at (length bytes) (nothing_left bytes at e) in rw n refl

pub documents_read_back_lem : DocumentsReadBack 32 65536
documents_read_back_lem f items r =
    let h = r.short in
    let bytes = write_document f in
    let k = length bytes - turns f 0 in
    let enough = turns_length f (0x1F ∷ []) in
    let t : length bytes + 1 ≡ turns f (suc k) = omega (arith, turns_add f (suc k)) in
    let e : ltb 65536 (length bytes) ≡ false = le-ltb 65536 (length bytes) h in
    let g = reads_forest bytes items f (suc k) 0 32 [] empty (0x1F ∷ []) r.proper (omega arith) refl in
    let c = next bytes g.end 0x1F [] g.left in
    rw (e, t) (g.same ∙ go_end bytes items k g.end f (event_ends bytes items g.end 0 c.here c.inside refl) ∙ ended bytes (g.end + 1) f c.rest)
