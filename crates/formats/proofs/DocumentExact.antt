-- A good reading is of a document's own bytes: nothing else reads as it.
use Rattle.std.proofs.Common.{◌≡◌, ℕ, zero, suc, ◌+◌, ◌-◌, ◌<◌, ◌≤◌, ltb, List, [], ◌∷◌, length, drop, Ok, Err, sym, ap, ◌∙◌, subst, arith, drop_of_length-le}
use Rattle.std.proofs.lemmas.Bool.{ltb-false}
use Rattle.std.proofs.lemmas.List.{drop_more}
use Rattle.formats.specs.declared.refusals.Refusal.TheVariants.{TooLong, BytesLeft}
use Rattle.formats.specs.declared.events.Event.{Event}
use Rattle.formats.specs.declared.events.Event.TheVariants.{Opens, Closes, Ends}
use Rattle.formats.specs.Trees.{Tree, Forest, tree, empty, entry, beside}
use Rattle.formats.specs.Reading.{Reading, byte, word}
use Rattle.formats.specs.Documents.{Open, event, follow, commands, closed}
use Rattle.formats.specs.Writing.{two_bytes, write_tree, write_forest, write_document, Proper, ProperTree, Label, Item}
use Rattle.formats.specs.Laws.{DocumentsExact}
use Rattle.formats.proofs.Readings.{passed, then_ok}
use Rattle.formats.proofs.ReadBack.{beside_empty, beside_last}
use Rattle.formats.proofs.Exact.{drop_word, word_small}

abbrev got : {X : Type 0} → X → Reading X → X
got d (Ok x) = x
got d (Err f) = d

module _ (bytes : List ℕ) (items : ℕ) (small : (i : ℕ) → byte bytes i < 256) where
  opened : (at depth l i : ℕ) → event bytes items at depth ≡ Ok (Opens l i)
      → (byte bytes at ≡ 0x10) × (at + 5 ≤ length bytes) × (depth < 32) × (l ≡ word bytes (at + 1)) × (0 < word bytes (at + 1)) × (i ≡ word bytes (at + 3)) × (word bytes (at + 3) < items)
  opened at depth l i e = (grind arith, grind arith, grind arith, grind arith, grind arith, grind arith, grind arith)

  closes : (at depth : ℕ) → event bytes items at depth ≡ Ok Closes → (byte bytes at ≡ 0x11) × (at < length bytes)
  closes at depth e = (grind arith, grind arith)

  ends : (at depth : ℕ) → event bytes items at depth ≡ Ok Ends → (byte bytes at ≡ 0x1F) × (at < length bytes) × (depth ≡ 0)
  ends at depth e = (grind arith, grind arith, grind arith)

  -- What stands from an offset on, where reading goes on to g.
  abbrev Rest : List Open → Forest ℕ → Forest ℕ → ℕ → Type 0
  Rest [] here g at = (f : Forest ℕ) × (drop at bytes ≡ write_forest f (0x1F ∷ [])) × (g ≡ beside here f) × Proper items 32 f
  Rest (o ∷ outer) here g at =
      (f : Forest ℕ) × (end : ℕ) × (drop at bytes ≡ write_forest f (0x11 ∷ drop end bytes)) × Proper items (32 - suc (length outer)) f × Rest outer (closed o (beside here f)) g end

  rest_grown : (outer : List Open) (here g : Forest ℕ) (at end : ℕ) (t : Tree ℕ) (i : ℕ) → drop at bytes ≡ write_tree t i (drop end bytes)
      → ProperTree items (32 - length outer) t → Item items i → Rest outer (beside here (entry t i empty)) g end → Rest outer here g at
  rest_grown [] here g at end t i d p q r =
      (entry t i r.0, d ∙ ap (write_tree t i) r.1, r.2 ∙ beside_last here t i r.0, (p, q, r.3))
  rest_grown (o ∷ outer) here g at end t i d p q r = (
    entry t i r.0,
    r.1,
    d ∙ ap (write_tree t i) r.2,
    (p, q, r.3),
    subst (λ (x : Forest ℕ). Rest outer (closed o x) g r.1) (beside_last here t i r.0) r.4,
  )

  spelt_open : (at : ℕ) (xs : List ℕ) → byte bytes at ≡ 0x10 → at + 5 ≤ length bytes → drop (at + 5) bytes ≡ xs
      → drop at bytes ≡ 0x10 ∷ two_bytes (word bytes (at + 1)) (two_bytes (word bytes (at + 3)) xs)
  spelt_open at xs b h d =
      let e3 : at + 1 + 2 ≡ at + 3 = omega arith in
      let e5 : at + 3 + 2 ≡ at + 5 = omega arith in
      let u : drop (at + 3) bytes ≡ two_bytes (word bytes (at + 3)) xs = drop_word bytes small (at + 3) (omega arith) ∙ ap (two_bytes (word bytes (at + 3))) (ap (λ p. drop p bytes) e5 ∙ d) in
      let v : drop (at + 1) bytes ≡ two_bytes (word bytes (at + 1)) (two_bytes (word bytes (at + 3)) xs) = drop_word bytes small (at + 1) (omega arith) ∙ ap (two_bytes (word bytes (at + 1))) (ap (λ p. drop p bytes) e3 ∙ u) in
      drop_more bytes at 0 (omega arith) ∙ ap (λ x. x ∷ drop (at + 1) bytes) b ∙ ap (λ xs. 0x10 ∷ xs) v

  spelt_tree : (at l i : ℕ) (xs : List ℕ) → byte bytes at ≡ 0x10 → at + 5 ≤ length bytes → l ≡ word bytes (at + 1) → i ≡ word bytes (at + 3) → drop (at + 5) bytes ≡ xs
      → drop at bytes ≡ 0x10 ∷ two_bytes l (two_bytes i xs)
  spelt_tree at l i xs b h el ei d = rw (el, ei) (spelt_open at xs b h d)

  by_event : (n at : ℕ) (outer : List Open) (here g : Forest ℕ) (e : Event) → ((at : ℕ) (outer : List Open) (here g : Forest ℕ) → commands bytes items n at outer here ≡ Ok g → Rest outer here g at)
      → event bytes items at (length outer) ≡ Ok e → follow bytes items (commands bytes items n) at outer here e ≡ Ok g → Rest outer here g at
  by_event n at outer here g (Opens l i) inner e k =
      let o = opened at (length outer) l i e in
      let r = inner (at + 5) (record { label = l; item = i; elder = here } ∷ outer) empty g k in
      let lv : 32 - suc (length outer) ≡ 32 - length outer - 1 = omega arith in
      let d : drop at bytes ≡ write_tree (tree l r.0) i (drop r.1 bytes) = spelt_tree at l i (write_forest r.0 (0x11 ∷ drop r.1 bytes)) o.0 o.1 o.3 o.5 r.2 in
      let ll : Label l = rw o.3 (o.4, word_small bytes small (at + 1)) in
      let ii : Item items i = rw o.5 (o.6, word_small bytes small (at + 3)) in
      rest_grown outer here g at r.1 (tree l r.0) i d (omega arith, ll, rw lv at r.3) ii r.4
  by_event n at [] here g Closes inner e k = let z : ◌≡◌ {A = ℕ} 0 1 = cc in absurd (omega arith)
  by_event n at (o ∷ outer) here g Closes inner e k =
      let c = closes at (length (o ∷ outer)) e in (
        empty,
        at + 1,
        drop_more bytes at 0 c.1 ∙ ap (λ x. x ∷ drop (at + 1) bytes) c.0,
        tt,
        subst (λ (x : Forest ℕ). Rest outer (closed o x) g (at + 1)) (sym (beside_empty here)) (inner (at + 1) outer (closed o here) g k),
      )
  by_event n at [] here g Ends inner e k =
      let c = ends at 0 e in
      let f = passed (ltb (at + 1) (length bytes)) BytesLeft (at + 1) (Ok here) g k in (
        empty,
        drop_more bytes at 0 c.1 ∙ ap (λ x. x ∷ drop (at + 1) bytes) c.0 ∙ ap (λ xs. 0x1F ∷ xs) (drop_of_length-le bytes (ltb-false (at + 1) (length bytes) f.0)),
        sym (ap (got g) f.1) ∙ sym (beside_empty here),
        tt,
      )
  by_event n at (o ∷ outer) here g Ends inner e k = let c = ends at (length (o ∷ outer)) e in absurd (omega (arith, c.2))

  rest_of : (n at : ℕ) (outer : List Open) (here g : Forest ℕ) → commands bytes items n at outer here ≡ Ok g → Rest outer here g at
  unfolding commands
  rest_of zero at outer here g e = let z : ◌≡◌ {A = ℕ} 0 1 = cc in absurd (omega arith)
  rest_of (suc n) at outer here g e =
      let t = then_ok (event bytes items at (length outer)) (follow bytes items (commands bytes items n) at outer here) g e in
      by_event n at outer here g t.0 (rest_of n) t.1 t.2

pub documents_exact_lem : DocumentsExact 32 65536
documents_exact_lem bytes items f small e =
    let p = passed (ltb 65536 (length bytes)) TooLong 0 (commands bytes items (length bytes + 1) 0 [] empty) f e in
    let r = rest_of bytes items small (length bytes + 1) 0 [] empty f p.1 in
    let same : bytes ≡ write_document f = rw r.2 r.1 in
    (same, record { proper = rw r.2 r.3; short = rw same at (ltb-false 65536 (length bytes) p.0) })
