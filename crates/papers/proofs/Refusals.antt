-- What no line says: where a word is missing or another stands, no kind and no map is read.
use Rattle.std.proofs.Common.{rules, MatchOption, MatchResult, Ok, Err, ◌≡◌, ℕ, ◌^◌, ◌<◌, ◌≤◌, true, ◌⊎◌, List, is_err, Some, None, codes, Option, Result, sym, refl, ap, ◌∙◌, subst, inl, inr, arith}
use Rattle.std.proofs.lemmas.Result.{MatchResult-from_err}
use Rattle.std.specs.Option.{ok_or, SomeIff}
use Rattle.text.specs.declared.words.Word.{Word}
use Rattle.grammar.specs.declared.names.SimpleKind.{SimpleKind}
use Rattle.grammar.specs.declared.names.SimpleKind.TheVariants.{Clearance, Condition}
use Rattle.grammar.specs.declared.names.KindName.{KindName}
use Rattle.grammar.specs.declared.names.KindName.TheVariants.{Simple, Pair}
use Rattle.grammar.specs.declared.names.SimpleMap.{SimpleMap}
use Rattle.grammar.specs.declared.names.SimpleMap.TheVariants.{Present, Cleared, Under}
use Rattle.grammar.specs.declared.names.MapWord.{MapWord}
use Rattle.grammar.specs.declared.names.MapName.{MapName}
use Rattle.grammar.specs.declared.names.MapName.TheVariants.{Direct, Left, Right}
use Rattle.text.specs.Lines.{Point, word_bytes, WordNext, NoWord}
use Rattle.grammar.specs.Keywords.{kind_bytes, map_bytes}
use Rattle.text.specs.Numerals.{Writes, value_of}
use Rattle.grammar.specs.Starts.{start_of}
use Rattle.papers.specs.Papers.{Told, Says, Begins, WithinNext, KindNext, SimpleAfter, SimpleFits, SimpleNext, ThenNext, ThenFits, MapNext, MapFits, Line}
use Rattle.text.proofs.Single.{one_word, not_both, one_first}

-- the exit of a `?`
pub broke : {X E : Type 0} (r : Result X E) (q : Point) (R : X → Point → Type 0) → is_err r ≡ true → ((x : X) (s : Point) → R x s → ⊥) → Told r q R
broke {X} r q R e h = MatchResult-from_err r (λ x. R x q) (λ _. (x : X) (s : Point) → R x s → ⊥) e (λ _. h)

-- what `ok_or` makes of an option
pub from_option : {X E : Type 0} (r : Result X E) (q : Point) (R : X → Point → Type 0) (o : Option X) (e : E) (N : Type 0) (P : X → Type 0) → r ≡ ok_or o e → MatchOption o N P → ((x : X) → P x → R x q) → (N → (x : X) (s : Point) → R x s → ⊥) → Told r q R
from_option r q R None e N P is h some none = subst (λ t. Told t q R) (sym is) (none h)
from_option r q R (Some x) e N P is h some none = subst (λ t. Told t q R) (sym is) (some x h)

-- what `map` makes of a result
pub mapped : {X Y E : Type 0} (f : X → Y) (r : Result X E) (s : Result Y E) (q : Point) (R : X → Point → Type 0) (S : Y → Point → Type 0) → MatchResult r (λ x. s ≡ Ok (f x)) (λ e. s ≡ Err e) → Told r q R → ((x : X) → R x q → S (f x) q) → (((x : X) (t : Point) → R x t → ⊥) → (y : Y) (t : Point) → S y t → ⊥) → Told s q S
mapped f (Ok x) s q R S is h some none = subst (λ t. Told t q S) (sym is) (some x h)
mapped f (Err e) s q R S is h some none = subst (λ t. Told t q S) (sym is) (none h)

-- the number v where P holds, narrowed to where Q holds too
pub narrowed : (P : Type 0) (Q : ℕ → Type 0) (v : ℕ) (a b : Option ℕ) → SomeIff a P v → MatchOption a (b ≡ None) (λ n. SomeIff b (Q n) n) → SomeIff b (P × Q v) v
narrowed P Q v None None h f = λ k. h k.0
narrowed P Q v None (Some y) h f = absurd cc
narrowed P Q v (Some x) None h f = λ k. f (subst Q (sym h.1) k.1)
narrowed P Q v (Some x) (Some y) h f = ((h.0, subst Q h.1 f.0), f.1 ∙ h.1)

says_one : {p q r : Point} (bs cs : List ℕ) → Says p bs q → Says p cs r → (bs ≡ cs) × (q ≡ r)
says_one bs cs a b = let o = one_word a.1 b.1 in (sym a.2 ∙ o.0 ∙ b.2, o.1)

not_pair : (k : SimpleKind) → kind_bytes k ≡ codes "pair" → ⊥
not_pair = search rules

module _ {p : Point} where
  pub no_kind_word : ((w : Word) (s : Point) → WordNext p w s → ⊥) → (k : KindName) (q : Point) → KindNext p k q → ⊥
  no_kind_word h (Simple k) q s = h s.0 q s.1
  no_kind_word h (Pair a b) q s = h s.2.0 s.0 s.2.1

  pub no_number_word : (low high : ℕ) → ((w : Word) (s : Point) → WordNext p w s → ⊥) → (n : ℕ) (q : Point) → WithinNext low high p n q → ⊥
  no_number_word low high h n q s = h s.0.0 q s.0.1

  pub no_left : {r : Point} → Says p (codes "pair") r → ((k : SimpleKind) (s : Point) → Says r (kind_bytes k) s → ⊥) → (k : KindName) (q : Point) → KindNext p k q → ⊥
  no_left pair h (Simple k) q s = not_pair k (says_one _ _ s pair).0
  no_left pair h (Pair a b) q s = h a s.1 (rw (← (says_one _ _ pair s.2).1) at s.3)

  pub no_right : {r t : Point} (a : SimpleKind) → Says p (codes "pair") r → Says r (kind_bytes a) t → ((k : SimpleKind) (s : Point) → Says t (kind_bytes k) s → ⊥) → (k : KindName) (q : Point) → KindNext p k q → ⊥
  no_right a pair left h (Simple k) q s = not_pair k (says_one _ _ s pair).0
  no_right a pair left h (Pair x b) q s =
      let second = rw (← (says_one _ _ pair s.2).1) at s.3 in
      h b q (rw (← (says_one _ _ left second).1) at s.4)

  pub no_kind : {r : Point} {w : Word} → WordNext p w r → (word_bytes w ≡ codes "pair" → ⊥) → ((k : SimpleKind) → word_bytes w ≡ kind_bytes k → ⊥) → (k : KindName) (q : Point) → KindNext p k q → ⊥
  no_kind next np nk (Simple k) q s = nk k ((one_word next s.1).0 ∙ s.2)
  no_kind next np nk (Pair a b) q s = np ((one_word next s.2.1).0 ∙ s.2.2)

  pub number_told : {r : Point} {w : Word} (low high : ℕ) (o : Option ℕ) → WordNext p w r → high < 256 → SomeIff o (((Writes (word_bytes w) × (value_of (word_bytes w) < 2 ^ 64)) × (value_of (word_bytes w) < 256)) × ((low ≤ value_of (word_bytes w)) × (value_of (word_bytes w) ≤ high))) (value_of (word_bytes w)) → MatchOption o ((n : ℕ) (q : Point) → WithinNext low high p n q → ⊥) (λ n. WithinNext low high p n r)
  number_told {w = w} low high None next small h = λ n q s.
      let same = (one_word next s.0.1).0 in
      let value : value_of (word_bytes w) ≡ n = ap value_of same ∙ s.0.3 in
      h (((subst Writes (sym same) s.0.2, omega (arith, value, s.2)), omega (arith, value, s.2)), (omega (arith, value, s.1), omega (arith, value, s.2)))
  number_told {w = w} low high (Some n) next small h = ((w, next, h.0.0.0.0, sym h.1), omega (arith, h.0.1.0, h.1), omega (arith, h.0.1.1, h.1))

  pub no_cleared : (w : Word) → ((n : ℕ) (q : Point) → WithinNext 1 4 p n q → ⊥) → (m : SimpleMap) (q : Point) → SimpleFits w Clearance p m q → ⊥
  no_cleared w h Present q s = let e = s.1 in cc
  no_cleared w h (Cleared n) q s = h n q (s.0.1, s.2.0, s.2.1)
  no_cleared w h (Under n) q s = let e = s.1 in cc

  pub no_under : (w : Word) → ((n : ℕ) (q : Point) → WithinNext 0 63 p n q → ⊥) → (m : SimpleMap) (q : Point) → SimpleFits w Condition p m q → ⊥
  no_under w h Present q s = let e = s.1 in cc
  no_under w h (Cleared n) q s = let e = s.1 in cc
  no_under w h (Under n) q s = h n q (s.0.1, omega arith, s.2)

pub no_simple : (p : Point) (w : Word) (k : SimpleKind) → ((m : MapWord) → word_bytes w ≡ map_bytes m → ⊥) → (m : SimpleMap) (q : Point) → SimpleFits w k p m q → ⊥
no_simple p w k h Present q s = h MapWord.Present s.0.0
no_simple p w k h (Cleared n) q s = h MapWord.Cleared s.0.0
no_simple p w k h (Under n) q s = h MapWord.Under s.0.0

after_same : (w v : Word) (p q : Point) (m : SimpleMap) → word_bytes v ≡ word_bytes w → SimpleAfter v p m q → SimpleAfter w p m q
after_same = search rules

-- the words of a map, at the point after its first word
after_first : {p r : Point} {w : Word} (q : Point) (m : SimpleMap) → WordNext p w r → SimpleNext p m q → SimpleAfter w r m q
after_first {w = w} q m next s =
    let o = one_word s.2 next in
    rw o.1 at (after_same w s.0 s.1 q m o.0 s.3)

module _ {p : Point} (k : SimpleKind) where
  pub no_then_word : {r : Point} → Says p (codes "then") r → ((w : Word) (s : Point) → WordNext r w s → ⊥) → (o : Option SimpleMap) (q : Point) → ThenFits k p o q → ⊥
  no_then_word then h None q s = not_both s.0.0 then.1
  no_then_word then h (Some m) q s =
      let rest = s.0.2 in
      h rest.0 rest.1 (rw (← (says_one _ _ then s.0.1).1) at rest.2)

  pub no_then_map : {r t : Point} {w : Word} → Says p (codes "then") r → WordNext r w t → ((m : SimpleMap) (s : Point) → SimpleFits w k t m s → ⊥) → (o : Option SimpleMap) (q : Point) → ThenFits k p o q → ⊥
  no_then_map then next h None q s = not_both s.0.0 then.1
  no_then_map then next h (Some m) q s =
      let rest = rw (← (says_one _ _ then s.0.1).1) at s.0.2 in
      h m q (after_first q m next rest, s.1.0, s.1.1)

  pub no_then : {r : Point} {w : Word} → WordNext p w r → (word_bytes w ≡ codes "then" → ⊥) → (o : Option SimpleMap) (q : Point) → ThenFits k p o q → ⊥
  no_then next nt None q s = not_both s.0.0 next
  no_then next nt (Some m) q s = nt ((one_word next s.0.1.1).0 ∙ s.0.1.2)

module _ {p t : Point} {w : Word} (l r : SimpleKind) where
  pub left_fits : WordNext p w t → word_bytes w ≡ codes "left" → (o : Option SimpleMap) (q : Point) → ThenFits l t o q → MapFits (Pair l r) p (Left o) q
  left_fits next is None q h = ((t, (w, next, is), h.0), (l, r, refl), tt)
  left_fits next is (Some m) q h = ((t, (w, next, is), h.0), (r, ap (λ k. Pair k r) (sym h.1.0)), h.1.1)

  pub right_fits : WordNext p w t → word_bytes w ≡ codes "right" → (o : Option SimpleMap) (q : Point) → ThenFits r t o q → MapFits (Pair l r) p (Right o) q
  right_fits next is None q h = ((t, (w, next, is), h.0), (l, r, refl), tt)
  right_fits next is (Some m) q h = ((t, (w, next, is), h.0), (l, ap (Pair l) (sym h.1.0)), h.1.1)

module _ {p : Point} where
  pub no_map_word : (k : KindName) → ((w : Word) (s : Point) → WordNext p w s → ⊥) → (m : MapName) (q : Point) → MapFits k p m q → ⊥
  no_map_word k h (Direct m) q s = h s.0.0 s.0.1 s.0.2
  no_map_word k h (Left o) q s = h s.0.1.0 s.0.0 s.0.1.1
  no_map_word k h (Right o) q s = h s.0.1.0 s.0.0 s.0.1.1

  pub no_direct : {r : Point} {w : Word} (k : SimpleKind) → WordNext p w r → ((m : SimpleMap) (q : Point) → SimpleFits w k r m q → ⊥) → (m : MapName) (q : Point) → MapFits (Simple k) p m q → ⊥
  no_direct k next h (Direct m) q s = let e = s.1 in let same : start_of m ≡ k = cc in h m q (after_first q m next s.0, same, s.2)
  no_direct k next h (Left None) q s = let e = s.1.2 in cc
  no_direct k next h (Left (Some m)) q s = let e = s.1.1 in cc
  no_direct k next h (Right None) q s = let e = s.1.2 in cc
  no_direct k next h (Right (Some m)) q s = let e = s.1.1 in cc

  pub no_left_map : {t : Point} {w : Word} (l r : SimpleKind) → WordNext p w t → word_bytes w ≡ codes "left" → ((o : Option SimpleMap) (q : Point) → ThenFits l t o q → ⊥) → (m : MapName) (q : Point) → MapFits (Pair l r) p m q → ⊥
  no_left_map l r next is h (Direct m) q s = let e = s.1 in cc
  no_left_map l r next is h (Left None) q s = h None q (rw (← (one_word next s.0.1.1).1) at s.0.2, tt)
  no_left_map l r next is h (Left (Some m)) q s =
      let e = s.1.1 in
      let same : start_of m ≡ l = cc in
      h (Some m) q (rw (← (one_word next s.0.1.1).1) at s.0.2, (same, s.2))
  no_left_map l r next is h (Right o) q s = let e = sym is ∙ (one_word next s.0.1.1).0 ∙ s.0.1.2 in grind arith

  pub no_right_map : {t : Point} {w : Word} (l r : SimpleKind) → WordNext p w t → word_bytes w ≡ codes "right" → ((o : Option SimpleMap) (q : Point) → ThenFits r t o q → ⊥) → (m : MapName) (q : Point) → MapFits (Pair l r) p m q → ⊥
  no_right_map l r next is h (Direct m) q s = let e = s.1 in cc
  no_right_map l r next is h (Right None) q s = h None q (rw (← (one_word next s.0.1.1).1) at s.0.2, tt)
  no_right_map l r next is h (Right (Some m)) q s =
      let e = s.1.1 in
      let same : start_of m ≡ r = cc in
      h (Some m) q (rw (← (one_word next s.0.1.1).1) at s.0.2, (same, s.2))
  no_right_map l r next is h (Left o) q s = let e = sym is ∙ (one_word next s.0.1.1).0 ∙ s.0.1.2 in grind arith

  pub no_half_map : {t : Point} {w : Word} (k : KindName) → WordNext p w t → (word_bytes w ≡ codes "left" → ⊥) → (word_bytes w ≡ codes "right" → ⊥) → ((j : SimpleKind) → k ≡ Simple j → ⊥) → (m : MapName) (q : Point) → MapFits k p m q → ⊥
  no_half_map k next nl nr ns (Direct m) q s = ns (start_of m) s.1
  no_half_map k next nl nr ns (Left o) q s = nl ((one_word next s.0.1.1).0 ∙ s.0.1.2)
  no_half_map k next nl nr ns (Right o) q s = nr ((one_word next s.0.1.1).0 ∙ s.0.1.2)

-- a point has one kind, and one end of a kind or a map
bytes_one : (a b : SimpleKind) → kind_bytes a ≡ kind_bytes b → a ≡ b
bytes_one = search rules

pub one_kind : (p q r : Point) (a b : KindName) → KindNext p a q → KindNext p b r → (a ≡ b) × (q ≡ r)
one_kind p q r (Simple a) (Simple b) s t = let o = says_one _ _ s t in (ap Simple (bytes_one a b o.0), o.1)
one_kind p q r (Simple a) (Pair b d) s t = absurd (not_pair a (says_one _ _ s t.2).0)
one_kind p q r (Pair a c) (Simple b) s t = absurd (not_pair b (says_one _ _ t s.2).0)
one_kind p q r (Pair a c) (Pair b d) s t =
    let first = says_one _ _ s.2 t.2 in
    let left = says_one _ _ s.3 (rw (← first.1) at t.3) in
    let right = says_one _ _ s.4 (rw (← left.1) at t.4) in
    ((λ i. Pair (bytes_one a b left.0 i) (bytes_one c d right.0 i)), right.1)

one_after : (w : Word) (p q r : Point) (a b : SimpleMap) → SimpleAfter w p a q → SimpleAfter w p b r → q ≡ r
one_after w p q r Present Present s t = s.1 ∙ sym t.1
one_after w p q r Present (Cleared n) s t = let e = sym s.0 ∙ t.0 in absurd (grind arith)
one_after w p q r Present (Under n) s t = let e = sym s.0 ∙ t.0 in absurd (grind arith)
one_after w p q r (Cleared m) Present s t = let e = sym s.0 ∙ t.0 in absurd (grind arith)
one_after w p q r (Cleared m) (Cleared n) s t = (one_word s.1.1 t.1.1).1
one_after w p q r (Cleared m) (Under n) s t = let e = sym s.0 ∙ t.0 in absurd (grind arith)
one_after w p q r (Under m) Present s t = let e = sym s.0 ∙ t.0 in absurd (grind arith)
one_after w p q r (Under m) (Cleared n) s t = let e = sym s.0 ∙ t.0 in absurd (grind arith)
one_after w p q r (Under m) (Under n) s t = (one_word s.1.1 t.1.1).1

one_simple : {p : Point} (q r : Point) (a b : SimpleMap) → SimpleNext p a q → SimpleNext p b r → q ≡ r
one_simple q r a b s t = one_after s.0 s.1 q r a b s.3 (after_first r b s.2 t)

one_then : (p q r : Point) (a b : Option SimpleMap) → ThenNext p a q → ThenNext p b r → q ≡ r
one_then p q r None None s t = s.1 ∙ sym t.1
one_then p q r None (Some b) s t = absurd (not_both s.0 t.1.1)
one_then p q r (Some a) None s t = absurd (not_both t.0 s.1.1)
one_then p q r (Some a) (Some b) s t = one_simple q r a b s.2 (rw (← (says_one _ _ s.1 t.1).1) at t.2)

-- no map of a half begins with `left` or `right`
not_half : (w : Word) (p q : Point) (m : SimpleMap) → SimpleAfter w p m q → (word_bytes w ≡ codes "left") ⊎ (word_bytes w ≡ codes "right") → ⊥
not_half = search rules

pub one_map : (p q r : Point) (a b : MapName) → MapNext p a q → MapNext p b r → q ≡ r
one_map p q r (Direct a) (Direct b) s t = one_simple q r a b s t
one_map p q r (Direct a) (Left b) s t = absurd (not_half s.0 s.1 q a s.3 (inl ((one_word s.2 t.1.1).0 ∙ t.1.2)))
one_map p q r (Direct a) (Right b) s t = absurd (not_half s.0 s.1 q a s.3 (inr ((one_word s.2 t.1.1).0 ∙ t.1.2)))
one_map p q r (Left a) (Direct b) s t = absurd (not_half t.0 t.1 r b t.3 (inl ((one_word t.2 s.1.1).0 ∙ s.1.2)))
one_map p q r (Right a) (Direct b) s t = absurd (not_half t.0 t.1 r b t.3 (inr ((one_word t.2 s.1.1).0 ∙ s.1.2)))
one_map p q r (Left a) (Right b) s t = let e = (says_one _ _ s.1 t.1).0 in absurd (grind arith)
one_map p q r (Right a) (Left b) s t = let e = (says_one _ _ s.1 t.1).0 in absurd (grind arith)
one_map p q r (Left a) (Left b) s t = one_then _ q r a b s.2 (rw (← (says_one _ _ s.1 t.1).1) at t.2)
one_map p q r (Right a) (Right b) s t = one_then _ q r a b s.2 (rw (← (says_one _ _ s.1 t.1).1) at t.2)

pub one_begin : {p q r : Point} (bs : List ℕ) → Begins p bs q → Begins p bs r → q ≡ r
one_begin bs a b = (one_first a.1 b.1).1

module _ {X : Type 0} (bs : List ℕ) (R : Point → X → Point → Type 0) {p : Point} where
  pub no_begin : ((x : Unit {0}) (s : Point) → Begins p bs s → ⊥) → (x : X) (q : Point) → Line bs R p x q → ⊥
  no_begin h x q s = h tt s.0 s.1

  pub no_rest : {r : Point} → Begins p bs r → ((x : X) (s : Point) → R r x s → ⊥) → (x : X) (q : Point) → Line bs R p x q → ⊥
  no_rest b h x q s = h x q (rw (← (one_begin bs b s.1)) at s.2)

  pub no_end : {r t : Point} (y : X) → ((x : X) (q : Point) → R r y t → R r x q → t ≡ q) → Begins p bs r → R r y t → (NoWord t → ⊥) → (x : X) (q : Point) → Line bs R p x q → ⊥
  no_end y one b own h x q s = h (subst NoWord (sym (one x q own (rw (← (one_begin bs b s.1)) at s.2))) s.3)
