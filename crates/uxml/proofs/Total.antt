-- Sums over forests, normal forests, and what the operations make of both.
use Rattle.std.proofs.Common.{◌≡◌, ℕ, true, false, cond, eqb, ◌≢◌, ◌⊎◌, sym, refl, ap, ◌∙◌, ap₂, inl, inr}
use Rattle.std.proofs.lemmas.Bool.{cond-true, cond-false, or_parts}
use Rattle.kinds.specs.Semiring.{Semiring, Lawful}
use Rattle.formats.specs.Trees.{Tree, Forest, tree, empty, entry, label, trees, In, here, there}
use Rattle.uxml.specs.Forests.{TreeOf as T, ForestOf as F, total, same_tree, at, known, put, add, union, scale, sum_over, below_tree, below_each, only}
use Rattle.uxml.specs.Normal.{Normal, NormalTree, node, nil, more}
use Rattle.uxml.specs.Equality.{Same}
use Rattle.uxml.proofs.Lawful.{by_test, cond_same, sound, nonzero, zero_plus, plus_left}
use Rattle.uxml.proofs.Same.{by_same, same_refl, same_sym, same_left, same_right, same_not, same_label}
use Rattle.uxml.proofs.Known.{known_find, trees_in}

pub in_node : {K : Semiring} {l : ℕ} {f : F K} → NormalTree K (tree l f) → Normal K f
in_node (node n) = n

pub normal_in : {K : Semiring} {t : T K} {a : K.carrier} {f : F K} → In t a f → Normal K f → NormalTree K t
normal_in here (more z e m n) = m
normal_in (there i) (more z e m n) = normal_in i n

pub total_ext : {A : Type 0} (L : Semiring) {φ ψ : Tree A → A → L.carrier} (f : Forest A) → ((t : Tree A) (a : A) → In t a f → φ t a ≡ ψ t a) → total L φ f ≡ total L ψ f
total_ext L empty h = refl
total_ext L (entry t a f) h = ap₂ L.plus (h t a here) (total_ext L f (λ u b i. h u b (there i)))

-- φ is linear in the annotation, where s carries the factors over
pub record Linear (K L : Semiring) (s : K.carrier → L.carrier) (φ : T K → K.carrier → L.carrier) : Type 0 where
  pub at_zero : (t : T K) → φ t K.zero ≡ L.zero
  pub at_plus : (t : T K) (a b : K.carrier) → φ t (K.plus a b) ≡ L.plus (φ t a) (φ t b)
  pub at_times : (t : T K) (a b : K.carrier) → φ t (K.times a b) ≡ L.times (s a) (φ t b)

-- φ takes t as it takes every tree that is the same
abbrev pub Steady : (K : Semiring) {X : Type 0} → (T K → K.carrier → X) → T K → Type 0
Steady K φ t = (u : T K) → NormalTree K u → Same K t u → (a : K.carrier) → φ t a ≡ φ u a

module _ {K L : Semiring} (K✓ : Lawful K) (L✓ : Lawful L) {s : K.carrier → L.carrier} {φ : T K → K.carrier → L.carrier} (lin : Linear K L s φ) where
  total_put : (t : T K) (a : K.carrier) (f : F K) → total L φ (put K t a f) ≡ L.plus (φ t a) (total L φ f)
  total_put t a f = by_test (K.same a K.zero)
      (λ e. rw e (rw (sound K✓ a K.zero e, lin.at_zero) (sym (zero_plus L✓ _)))) (λ e. rw e)

  pub total_add : (t : T K) (a : K.carrier) {f : F K} → Steady K φ t → Normal K f → total L φ (add K t a f) ≡ L.plus (φ t a) (total L φ f)
  total_add t a r nil = total_put t a empty
  total_add t a r (more {t = u} {a = b} {f} z e m n) = by_same K t u
      (λ e. rw e.is (total_put u (K.plus a b) f ∙ rw (lin.at_plus, r u m e a) (L✓.plus_assoc _ _ _)))
      (λ e. rw e (rw (total_add t a r n) (plus_left L✓ _ _ _)))

  pub total_scale : (c : K.carrier) (f : F K) → total L φ (scale K c f) ≡ L.times (s c) (total L φ f)
  total_scale c empty = sym (L✓.times_zero (s c))
  total_scale c (entry t a f) = total_put t (K.times c a) (scale K c f) ∙ (ap₂ L.plus (lin.at_times t c a) (total_scale c f) ∙ sym (L✓.times_plus _ _ _))

-- `at K f v` is the sum of `only_at K v` over f
abbrev pub only_at : (K : Semiring) → T K → T K → K.carrier → K.carrier
only_at K v t a = cond (same_tree K t v) a K.zero

module _ {K : Semiring} (K✓ : Lawful K) where
  pub at_linear : (v : T K) → Linear K K (λ a. a) (only_at K v)
  at_linear v = record {
    at_zero = λ t. by_test (same_tree K t v) (λ e. rw e) (λ e. rw e);
    at_plus = λ t a b. by_test (same_tree K t v) (λ e. rw e) (λ e. rw e (sym (zero_plus K✓ _)));
    at_times = λ t a b. by_test (same_tree K t v) (λ e. rw e) (λ e. rw e (sym (K✓.times_zero a)));
  }

  pub at_steady : (v t : T K) → Steady K (only_at K v) t
  at_steady v t u m e a = rw (same_left K✓ e v)

  pub at_same : (f : F K) {t u : T K} → Same K t u → at K f t ≡ at K f u
  at_same f e = total_ext K f (λ v a i. rw (same_right K✓ e v))

  pub at_yes : (t : T K) (a : K.carrier) (f : F K) (v : T K) → same_tree K t v ≡ true → at K (entry t a f) v ≡ K.plus a (at K f v)
  at_yes t a f v e = ap₂ K.plus (cond-true _ _ _ e) refl

  pub at_no : (t : T K) (a : K.carrier) (f : F K) (v : T K) → same_tree K t v ≡ false → at K (entry t a f) v ≡ at K f v
  at_no t a f v e = ap₂ K.plus (cond-false _ _ _ e) refl ∙ zero_plus K✓ _

  pub at_here : {t v : T K} (a : K.carrier) (f : F K) → Same K t v → at K f t ≡ K.zero → at K (entry t a f) v ≡ a
  at_here {t} {v} a f e z = at_yes t a f v e.is ∙ (ap (K.plus a) (at_same f (same_sym K✓ e) ∙ z) ∙ K✓.plus_zero a)

  -- a tree that is not listed has annotation zero
  pub absent : (t : T K) (f : F K) → known K t (trees f) ≡ false → at K f t ≡ K.zero
  absent t empty e = refl
  absent t (entry u a f) e = let p = or_parts (same_tree K t u) (known K t (trees f)) e in at_no u a f t (same_not K✓ t u p.0) ∙ absent t f p.1

  pub nonzero_in : {t : T K} {a : K.carrier} {f : F K} → In t a f → Normal K f → a ≢ K.zero
  nonzero_in here (more x y m n) = x
  nonzero_in (there i) (more x y m n) = nonzero_in i n

  -- a listed annotation is the tree's
  pub at_in : {t : T K} {a : K.carrier} {f : F K} → In t a f → Normal K f → at K f t ≡ a
  at_in {t} {a} (here {f}) (more x y m n) = at_here a f (same_refl K✓ t) (absent t f y)
  at_in {t} (there {u} {b} {f} i) (more x y m n) = by_same K u t
      (λ d. absurd (nonzero_in i n (sym (at_in i n) ∙ (at_same f (same_sym K✓ d) ∙ absent u f y)))) (λ d. at_no u b f t d ∙ at_in i n)

  -- in a normal forest a tree with annotation zero is not listed
  unlisted : (t : T K) {f : F K} → Normal K f → at K f t ≡ K.zero → known K t (trees f) ≡ false
  unlisted t {f} n z = by_test (known K t (trees f))
      (λ e. let x = known_find t (trees f) e in let y = trees_in f x.1 in absurd (nonzero_in y.1 n (sym (at_in y.1 n) ∙ (at_same f (same_sym K✓ x.2) ∙ z))))
      (λ e. e)

  pub more_at : {t : T K} {a : K.carrier} {f : F K} → a ≢ K.zero → at K f t ≡ K.zero → NormalTree K t → Normal K f → Normal K (entry t a f)
  more_at {t} x z m n = more x (unlisted t n z) m n

module _ {K : Semiring} (K✓ : Lawful K) where
  keep_put : {t : T K} (a : K.carrier) {f : F K} → NormalTree K t → at K f t ≡ K.zero → Normal K f → Normal K (put K t a f)
  keep_put a m z n = by_test (K.same a K.zero) (λ e. rw e n) (λ e. rw e (more_at K✓ (nonzero K✓ a e) z m n))

  pub keep_add : {t : T K} (a : K.carrier) {f : F K} → NormalTree K t → Normal K f → Normal K (add K t a f)
  keep_add a m nil = keep_put a m refl nil
  keep_add {t} a m (more {t = u} {a = b} {f} z e k n) = let y = absent K✓ u f e in by_same K t u (λ d. rw d.is (keep_put (K.plus a b) k y n))
      (λ d. rw d (more_at K✓ z (total_add K✓ K✓ (at_linear K✓ u) t a (at_steady K✓ u t) n ∙ rw (d, y) (zero_plus K✓ _)) k (keep_add a m n)))

  pub keep_union : {f g : F K} → Normal K f → Normal K g → Normal K (union K f g)
  keep_union nil n = n
  keep_union (more {a} z e k m) n = keep_add a k (keep_union m n)

  pub keep_scale : (c : K.carrier) {f : F K} → Normal K f → Normal K (scale K c f)
  keep_scale c nil = nil
  keep_scale c (more {t} {a} {f} z e m n) = keep_put (K.times c a) m (total_scale K✓ K✓ (at_linear K✓ t) c f ∙ rw (absent K✓ t f e) (K✓.times_zero c)) (keep_scale c n)

  pub keep_sum : (g : T K → F K) (f : F K) → ((t : T K) (a : K.carrier) → In t a f → Normal K (g t)) → Normal K (sum_over K g f)
  keep_sum g empty h = nil
  keep_sum g (entry t a f) h = keep_union (keep_scale a (h t a here)) (keep_sum g f (λ u b i. h u b (there i)))

module _ {K L : Semiring} (K✓ : Lawful K) (L✓ : Lawful L) {s : K.carrier → L.carrier} {φ : T K → K.carrier → L.carrier} (lin : Linear K L s φ) (r : (t : T K) → NormalTree K t → Steady K φ t) where
  pub total_union : {f g : F K} → Normal K f → Normal K g → total L φ (union K f g) ≡ L.plus (total L φ f) (total L φ g)
  total_union nil n = sym (zero_plus L✓ _)
  total_union (more {t} {a} z e k m) n = total_add K✓ L✓ lin t a (r t k) (keep_union K✓ m n) ∙ (ap (L.plus _) (total_union m n) ∙ sym (L✓.plus_assoc _ _ _))

  pub total_sum : (g : T K → F K) (f : F K) → ((t : T K) (a : K.carrier) → In t a f → Normal K (g t))
      → total L φ (sum_over K g f) ≡ total L (λ t a. L.times (s a) (total L φ (g t))) f
  total_sum g empty n = refl
  total_sum g (entry t a f) n = total_union (keep_scale K✓ a (n t a here)) (keep_sum K✓ g f (λ u b i. n u b (there i)))
      ∙ ap₂ L.plus (total_scale K✓ L✓ lin a (g t)) (total_sum g f (λ u b i. n u b (there i)))

-- a sum over the trees with a label, where φ is zero but at trees with one label
pub total_only : (K L : Semiring) (L✓ : Lawful L) (φ : T K → K.carrier → L.carrier) (l k : ℕ) (f : F K) → ((t : T K) (a : K.carrier) → (φ t a ≡ L.zero) ⊎ (label t ≡ k))
    → total L φ (only K l f) ≡ cond (eqb k l) (total L φ f) L.zero
total_only K L L✓ φ l k empty c = sym (cond_same (eqb k l))
total_only K L L✓ φ l k (entry t a f) c = let h = total_only K L L✓ φ l k f c in by_test (eqb (label t) l)
    (λ e. rw e (elim (c t a) [ inl z ↦ ap₂ L.plus z h ∙ (zero_plus L✓ _ ∙ gone z) | inr p ↦ ap (L.plus _) h ∙ rw (ap (λ n. eqb n l) (sym p) ∙ e) ]))
    (λ e. rw e (h ∙ elim (c t a) [ inl z ↦ gone z | inr p ↦ rw (ap (λ n. eqb n l) (sym p) ∙ e) ]))
  where
    gone : φ t a ≡ L.zero → cond (eqb k l) (total L φ f) L.zero ≡ cond (eqb k l) (L.plus (φ t a) (total L φ f)) L.zero
    gone z = ap (λ x. cond (eqb k l) x L.zero) (sym (ap₂ L.plus z refl ∙ zero_plus L✓ _))

module _ {K : Semiring} (K✓ : Lawful K) where
  pub at_only : (l : ℕ) (f : F K) (v : T K) → at K (only K l f) v ≡ cond (eqb (label v) l) (at K f v) K.zero
  at_only l f v = total_only K K K✓ (only_at K v) l (label v) f (λ t a. by_same K t v (λ e. inr (same_label K✓ e)) (λ e. inl (cond-false _ _ _ e)))

  pub keep_only : (l : ℕ) {f : F K} → Normal K f → Normal K (only K l f)
  keep_only l nil = nil
  keep_only l (more {t} {f} z e m n) = by_test (eqb (label t) l)
      (λ d. rw d (more_at K✓ z (at_only l f t ∙ rw (d, absent K✓ t f e)) m (keep_only l n))) (λ d. rw d (keep_only l n))

pub below_sum : (K : Semiring) (f : F K) → below_each K f ≡ sum_over K (below_tree K) f
below_sum K empty = refl
below_sum K (entry t a f) = ap (union K (scale K a (below_tree K t))) (below_sum K f)
