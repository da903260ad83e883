-- A point of a text has at most one next word, and one first word of the lines below.
use Rattle.std.proofs.Common.{◌≡◌, ℕ, suc, Bool, List, [], ◌∷◌, ◌++◌, length, sym, refl, ap, ◌∙◌, subst, append-nil, arith, length-append}
use Rattle.std.proofs.lemmas.List.{get_or_append_left}
use Rattle.std.proofs.lemmas.Grind.{common_steps}
use Rattle.text.specs.declared.words.Word.{Word}
use Rattle.text.specs.Lines.{blank, inside, in_line, onward, word_bytes, Point, All, Stops, WordNext, NoWord, NoMore, LineNext, LastLine, Skips, stay, line, WordBelow}

all_rest : (test : ℕ → Bool) (x : ℕ) (xs : List ℕ) → All test (x ∷ xs) → All test xs
all_rest test x xs a k lt = a (suc k) (omega arith)

-- a list has one longest front whose bytes pass a test
front_one : (test : ℕ → Bool) (xs ys us vs : List ℕ) → All test xs → All test us → Stops test ys 0 → Stops test vs 0 → xs ++ ys ≡ us ++ vs → (xs ≡ us) × (ys ≡ vs)
front_one test [] ys [] vs a b s t e = (refl, e)
front_one test [] ys (u ∷ us) vs a b s t e = let one = b 0 (omega arith) in let other = rw e at s in absurd (cc (other (omega arith)))
front_one test (x ∷ xs) ys [] vs a b s t e = let one = a 0 (omega arith) in let other = rw (← e) at t in absurd (cc (other (omega arith)))
front_one test (x ∷ xs) ys (u ∷ us) vs a b s t e =
    let same : x ≡ u = cc in
    let others : xs ++ ys ≡ us ++ vs = cc in
    let rec = front_one test xs ys us vs (all_rest test x xs a) (all_rest test u us b) s t others in
    ((λ i. same i ∷ rec.0 i), rec.1)

-- no word begins with a blank
word_front : {p q : Point} {w : Word} → WordNext p w q → Stops blank (word_bytes w ++ q.left) 0
word_front {q = q} {w = w} h lt = let one = h.solid 0 h.some in grind (arith, common_steps, get_or_append_left (word_bytes w) q.left 0 0 h.some)

pub one_word : {p q r : Point} {w v : Word} → WordNext p w q → WordNext p v r → (word_bytes w ≡ word_bytes v) × (q ≡ r)
one_word {p} {q} {r} {w} {v} h g =
    let cuts = front_one blank h.gap (word_bytes w ++ q.left) g.gap (word_bytes v ++ r.left) h.blanks g.blanks (word_front h) (word_front g) (sym h.cut ∙ g.cut) in
    let parts = front_one inside (word_bytes w) q.left (word_bytes v) r.left h.solid g.solid h.longest g.longest cuts.1 in
    let here : w.place ≡ v.place = h.here ∙ ap (λ l. onward p.place (length l)) cuts.0 ∙ sym g.here in
    let there : q.place ≡ r.place = h.after ∙ (λ i. onward (here i) (length (parts.0 i))) ∙ sym g.after in
    (parts.0, λ i. record { left = parts.1 i; place = there i })

pub not_both : {p q : Point} {w : Word} → NoWord p → WordNext p w q → ⊥
not_both {p} {q} {w} h g =
    let cuts = front_one blank h.gap h.others g.gap (word_bytes w ++ q.left) h.blanks g.blanks h.ends (word_front g) (sym h.cut ∙ g.cut) in
    let one = g.solid 0 g.some in
    let none = rw cuts.1 at h.none in
    grind (arith, common_steps, g.some, none, get_or_append_left (word_bytes w) q.left 0 0 g.some, length-append (word_bytes w) q.left)

one_line : {p q r : Point} → LineNext p q → LineNext p r → q ≡ r
one_line {p} {q} {r} h g =
    let cuts = front_one in_line h.line (10 ∷ q.left) g.line (10 ∷ r.left) h.one g.one (λ _. refl) (λ _. refl) (sym h.cut ∙ g.cut) in
    let lines = cuts.1 in
    let same : q.left ≡ r.left = cc in
    let there : q.place ≡ r.place = h.below ∙ sym g.below in
    λ i. record { left = same i; place = there i }

not_last : {p q : Point} → LastLine p → LineNext p q → ⊥
not_last {p} {q} h g =
    let cuts = front_one in_line p.left [] g.line (10 ∷ q.left) h g.one (λ lt. absurd (omega arith)) (λ _. refl) (append-nil p.left ∙ g.cut) in
    let clash = cuts.1 in
    cc

pub one_first : {p q r : Point} {w v : Word} → WordBelow p w q → WordBelow p v r → (word_bytes w ≡ word_bytes v) × (q ≡ r)
one_first {p} {q} {r} {w} {v} h g = go h.1 h.2 g.1 g.2
  where
    go : {a b c : Point} → Skips a b → WordNext b w q → Skips a c → WordNext c v r → (word_bytes w ≡ word_bytes v) × (q ≡ r)
    go stay x stay y = one_word x y
    go stay x (line empty next others) y = absurd (not_both empty x)
    go (line empty next others) x stay y = absurd (not_both empty y)
    go {c = c} (line empty next others) x (line empty' next' others') y = go others x (subst (λ t. Skips t c) (one_line next' next) others') y

pub not_first : {p q r : Point} {w : Word} → NoMore p q → WordBelow p w r → ⊥
not_first {p} {q} {r} {w} h g = go h.0 h.1 h.2 g.1 g.2
  where
    go : {a b c : Point} → Skips a b → NoWord b → LastLine b → Skips a c → WordNext c w r → ⊥
    go stay x l stay y = not_both x y
    go stay x l (line empty next others) y = not_last l next
    go (line empty next others) x l stay y = not_both empty y
    go {c = c} (line empty next others) x l (line empty' next' others') y = go others x l (subst (λ t. Skips t c) (one_line next' next) others') y
