-- Sums do not depend on the order of a forest; equal normal forests are the children of same trees.
use Rattle.std.proofs.Common.{◌≡◌, ℕ, cond, ◌≢◌, sym, refl, ap, ◌∙◌, subst}
use Rattle.kinds.specs.Semiring.{Semiring, Lawful}
use Rattle.formats.specs.Trees.{tree, empty, entry, In, here, there}
use Rattle.uxml.specs.Forests.{TreeOf as T, ForestOf as F, total, same_tree, at, Equal}
use Rattle.uxml.specs.Normal.{Normal, NormalTree, nil, more}
use Rattle.uxml.specs.Equality.{Same}
use Rattle.uxml.proofs.Lawful.{by_test, sound, nonzero, plus_left, cond_same}
use Rattle.uxml.proofs.Same.{Like, by_same, same_refl, same_sym, same_trans, same_left, same_right, same_not, same_parts, same_from}
use Rattle.uxml.proofs.Total.{at_same, at_no, at_here, at_in, nonzero_in, absent, more_at}

module _ {K : Semiring} (K✓ : Lawful K) where
  -- g without the tree t
  abbrev without : T K → F K → F K
  without t empty = empty
  without t (entry u b g) = cond (same_tree K t u) g (entry u b (without t g))

  at_without : (t : T K) {g : F K} → Normal K g → (u : T K) → at K (without t g) u ≡ cond (same_tree K t u) K.zero (at K g u)
  at_without t nil u = sym (cond_same (same_tree K t u))
  at_without t (more {t = v} {a = b} {f = g} z y m n) u = by_same K t v
      (λ e. rw (e.is, same_left K✓ e u) (by_same K v u (λ d. rw d.is (at_same K✓ g (same_sym K✓ d) ∙ absent K✓ v g y)) (λ d. rw d (sym (at_no K✓ v b g u d)))))
      (λ e. rw e (by_same K t u
      (λ d. rw d.is (at_no K✓ v b (without t g) u (sym (same_right K✓ d v) ∙ same_not K✓ t v e) ∙ (at_without t n u ∙ rw d.is)))
      (λ d. rw d (ap (K.plus _) (at_without t n u ∙ rw d)))))

  keep_without : (t : T K) {g : F K} → Normal K g → Normal K (without t g)
  keep_without t nil = nil
  keep_without t (more {t = v} {f = g} z y m n) = by_same K t v (λ e. rw e.is n)
      (λ e. rw e (more_at K✓ z (at_without t n v ∙ rw (e, absent K✓ v g y)) m (keep_without t n)))

  module _ {L : Semiring} (L✓ : Lawful L) (φ ψ : T K → K.carrier → L.carrier) where
    pull : (t : T K) (a : K.carrier) {g : F K} → ((u : T K) → NormalTree K u → Same K t u → φ t a ≡ ψ u a)
        → Normal K g → at K g t ≡ a → a ≢ K.zero → total L ψ g ≡ L.plus (φ t a) (total L ψ (without t g))
    pull t a r nil e z = absurd (z (sym e))
    pull t a r (more {t = v} {a = b} {f = g} x y m n) e z = by_same K t v
        (λ d. rw (d.is, r v m d, ← e, at_here K✓ b g (same_sym K✓ d) (absent K✓ v g y)))
        (λ d. rw d (ap (L.plus _) (pull t a r n (sym (at_no K✓ v b g t (same_not K✓ t v d)) ∙ e) z) ∙ plus_left L✓ _ _ _))

    -- equal forests have equal sums
    pub order : {f g : F K} → ((t : T K) (a : K.carrier) → In t a f → (u : T K) → NormalTree K u → Same K t u → φ t a ≡ ψ u a)
        → Normal K f → Normal K g → Equal K f g → total L φ f ≡ total L ψ g
    order r nil nil e = refl
    order r nil (more {t = u} {a = b} {f = g} x y m n) e = absurd (x (sym (at_here K✓ b g (same_refl K✓ u) (absent K✓ u g y)) ∙ sym (e u)))
    order r (more {t} {a} {f} x y m k) n e = ap (L.plus _) (order (λ u b i. r u b (there i)) k (keep_without t n)
        (λ u. sym (at_without t n u ∙ by_same K t u (λ d. rw d.is (sym (at_same K✓ f (same_sym K✓ d) ∙ absent K✓ t f y))) (λ d. rw d (sym (e u) ∙ at_no K✓ t a f u d)))))
        ∙ sym (pull t a (r t a here) n (sym (e t) ∙ at_here K✓ a f (same_refl K✓ t) (absent K✓ t f y)) x)

  -- a tree that has an annotation stands in the forest
  pub find_in : (t : T K) {a : K.carrier} {g : F K} → Normal K g → at K g t ≡ a → a ≢ K.zero → (u : T K) × In u a g × Same K t u
  find_in t nil e z = absurd (z (sym e))
  find_in t {a} (more {t = u} {a = b} {f = g} x y m n) e z = by_same K t u
      (λ d. (u, subst (λ x. In u x (entry u b g)) (sym (at_here K✓ b g (same_sym K✓ d) (absent K✓ u g y)) ∙ e) here, d))
      (λ d. let x = find_in t n (sym (at_no K✓ u b g t (same_not K✓ t u d)) ∙ e) z in (x.0, there x.1, x.2))

  like_at : {f g : F K} (R : T K → T K → Type 0) → ((t u : T K) → R t u → Same K t u) → Like K f g R
      → Normal K f → Normal K g → (u : T K) → at K f u ≢ K.zero → at K g u ≡ at K f u
  like_at {f} {g} R c p m n u z = let x = find_in u m refl z in let y = p x.0 (at K f u) x.1 in
      at_same K✓ g (same_trans K✓ x.2 (c x.0 y.0 y.2)) ∙ at_in K✓ y.1 n

module _ {K : Semiring} (K✓ : Lawful K) where
  pub same_from_equal : (l : ℕ) {f g : F K} → Normal K f → Normal K g → Equal K f g → Same K (tree l f) (tree l g)
  same_from_equal l m n e = same_from K✓ refl
      (λ t a i. find_in K✓ t n (sym (e t) ∙ at_in K✓ i m) (nonzero_in K✓ i m))
      (λ u a i. let x = find_in K✓ u m (e u ∙ at_in K✓ i n) (nonzero_in K✓ i n) in (x.0, x.1, same_sym K✓ x.2))

  pub equal_from_same : {l k : ℕ} {f g : F K} → Normal K f → Normal K g → Same K (tree l f) (tree k g) → Equal K f g
  equal_from_same {f} {g} m n e u = let x = same_parts K✓ e in by_test (K.same (at K f u) K.zero)
      (λ y. by_test (K.same (at K g u) K.zero) (λ z. sound K✓ _ _ y ∙ sym (sound K✓ _ _ z))
      (λ z. like_at K✓ (λ v t. Same K t v) (λ v t. same_sym K✓) x.2 n m u (nonzero K✓ _ z)))
      (λ y. sym (like_at K✓ (Same K) (λ t v d. d) x.1 m n u (nonzero K✓ _ y)))
