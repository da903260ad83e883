-- Induction over trees; trees that are the same.
use Rattle.std.proofs.Common.{◌≡◌, ℕ, Bool, true, false, ◌&&◌, ◌||◌, eqb, sym, refl, ap, ◌∙◌, subst, inl, inr}
use mathlib.Core.Bool.{false≢true}
use Rattle.std.proofs.lemmas.Bool.{eqb-true, eq-eqb, and_parts, and_from, or_cases, or_left, or_right}
use Rattle.kinds.specs.Semiring.{Semiring, Lawful}
use Rattle.formats.specs.Trees.{Tree, Forest, tree, empty, entry, label, In, here, there}
use Rattle.uxml.specs.Forests.{TreeOf as T, ForestOf as F, every, some, same_tree, inside, has}
use Rattle.uxml.specs.Equality.{Same}
use Rattle.uxml.proofs.Lawful.{by_test, same_test, sound, itself}

-- induction over trees
module _ {A : Type 0} (P : Tree A → Type 0) (step : (l : ℕ) (f : Forest A) → ((t : Tree A) (a : A) → In t a f → P t) → P (tree l f)) where
  abbrev pick : (u : Tree A) (b : A) (f : Forest A) → P u → ((t : Tree A) (a : A) → In t a f → P t) → (t : Tree A) (a : A) → In t a (entry u b f) → P t
  pick u b f p q t a here = p
  pick u b f p q t a (there i) = q t a i

  mutual
    pub tree_ind : (t : Tree A) → P t
    tree_ind (tree l f) = step l f (forest_ind f)

    forest_ind : (f : Forest A) (t : Tree A) (a : A) → In t a f → P t
    forest_ind empty t a i = elim i [ ]
    forest_ind (entry u b f) t a i = pick u b f (tree_ind u) (forest_ind f) t a i

module _ {A : Type 0} (p : Tree A → A → Bool) where
  some_from : {t : Tree A} {a : A} {f : Forest A} → In t a f → p t a ≡ true → some p f ≡ true
  some_from here e = or_left _ _ e
  some_from (there i) e = or_right _ _ (some_from i e)

  some_find : (f : Forest A) → some p f ≡ true → (t : Tree A) × (a : A) × In t a f × (p t a ≡ true)
  some_find empty e = absurd (false≢true e)
  some_find (entry t a f) e =
      elim (or_cases (p t a) (some p f) e) [ inl h ↦ (t, a, here, h) | inr h ↦ (let x = some_find f h in (x.0, x.1, there x.2, x.3)) ]

  every_at : {t : Tree A} {a : A} {f : Forest A} → In t a f → every p f ≡ true → p t a ≡ true
  every_at here e = (and_parts _ _ e).0
  every_at (there i) e = every_at i (and_parts _ _ e).1

  every_from : (f : Forest A) → ((t : Tree A) (a : A) → In t a f → p t a ≡ true) → every p f ≡ true
  every_from empty h = refl
  every_from (entry t a f) h = and_from _ _ (h t a here) (every_from f (λ u b i. h u b (there i)))

pub by_same : {P : Type 0} (K : Semiring) (t u : T K) → (Same K t u → P) → (same_tree K t u ≡ false → P) → P
by_same K t u p q = by_test (same_tree K t u) (λ e. p (record { is = e })) q

module _ (K : Semiring) where
  -- each tree of f has its like in g, at the same annotation
  abbrev pub Like : F K → F K → (T K → T K → Type 0) → Type 0
  Like f g R = (t : T K) (a : K.carrier) → In t a f → (u : T K) × In u a g × R t u

  inside_is : (f g : F K) → inside K f g ≡ every (λ t a. some (λ u b. same_tree K t u && K.same a b) g) f
  inside_is empty g = refl
  inside_is (entry t a f) g = ap (λ x. some (λ u b. same_tree K t u && K.same a b) g && x) (inside_is f g)

  has_is : (f : F K) (u : T K) (b : K.carrier) → has K f u b ≡ some (λ t a. same_tree K t u && K.same a b) f
  has_is empty u b = refl
  has_is (entry t a f) u b = ap (λ x. (same_tree K t u && K.same a b) || x) (has_is f u b)

  equal_tests : (t u v w : T K) → (Same K t u → Same K v w) → (Same K v w → Same K t u) → same_tree K t u ≡ same_tree K v w
  equal_tests t u v w p q = same_test (same_tree K t u) (same_tree K v w) (λ e. (p (record { is = e })).is) (λ e. (q (record { is = e })).is)

module _ {K : Semiring} (K✓ : Lawful K) where
  pub same_parts : {l m : ℕ} {f g : F K} → Same K (tree l f) (tree m g) → (l ≡ m) × Like K f g (Same K) × Like K g f (λ u t. Same K t u)
  same_parts {l} {m} {f} {g} e =
      let x = and_parts (eqb l m) (inside K f g && every (has K f) g) e.is in
      let y = and_parts (inside K f g) (every (has K f) g) x.1 in (
        eqb-true l m x.0,
        λ t a i. let z = some_find _ g (every_at _ i (sym (inside_is K f g) ∙ y.0)) in let w = and_parts (same_tree K t z.0) _ z.3 in
            (z.0, subst (λ x. In z.0 x g) (sym (sound K✓ a z.1 w.1)) z.2, record { is = w.0 }),
        λ t a i. let z = some_find _ f (sym (has_is K f t a) ∙ every_at (has K f) i y.1) in let w = and_parts (same_tree K z.0 t) _ z.3 in
            (z.0, subst (λ x. In z.0 x f) (sound K✓ z.1 a w.1) z.2, record { is = w.0 }),
      )

  pub same_from : {l m : ℕ} {f g : F K} → l ≡ m → Like K f g (Same K) → Like K g f (λ u t. Same K t u) → Same K (tree l f) (tree m g)
  same_from {l} {m} {f} {g} e p q = record {
    is = and_from _ _ (eq-eqb l m e) (and_from _ _
        (inside_is K f g ∙ every_from _ f (λ t a i. let z = p t a i in some_from _ z.1 (and_from _ _ z.2.is (itself K✓ a))))
        (every_from _ g (λ t a i. let z = q t a i in has_is K f t a ∙ some_from _ z.1 (and_from _ _ z.2.is (itself K✓ a)))));
  }

  pub same_label : {t u : T K} → Same K t u → label t ≡ label u
  same_label {t = tree l f} {u = tree m g} e = (same_parts e).0

  pub same_refl : (t : T K) → Same K t t
  same_refl = tree_ind (λ t. Same K t t) (λ l f h. same_from refl (λ t a i. (t, i, h t a i)) (λ t a i. (t, i, h t a i)))

  pub same_sym : {t u : T K} → Same K t u → Same K u t
  same_sym {t} {u} = tree_ind (λ t. (u : T K) → Same K t u → Same K u t) (λ l f h. elim [
    | tree m g ↦ λ e. let x = same_parts e in
        same_from (sym x.0) (λ u a i. let y = x.2 u a i in (y.0, y.1, h y.0 a y.1 u y.2))
        (λ t a i. let y = x.1 t a i in (y.0, y.1, h t a i y.0 y.2))
  ]) t u

  pub same_trans : {t u v : T K} → Same K t u → Same K u v → Same K t v
  same_trans {t} {u} {v} = tree_ind (λ t. (u v : T K) → Same K t u → Same K u v → Same K t v)
      (λ l f h. elim [
        | tree m g ↦ elim [
          | tree n k ↦ λ d e. let x = same_parts d in let y = same_parts e in same_from (x.0 ∙ y.0)
              (λ t a i. let p = x.1 t a i in let q = y.1 p.0 a p.1 in (q.0, q.1, h t a i p.0 q.0 p.2 q.2))
              (λ v a i. let q = y.2 v a i in let p = x.2 q.0 a q.1 in (p.0, p.1, h p.0 a p.1 q.0 v p.2 q.2))
        ]
      ]) t u v

  pub same_left : {t u : T K} → Same K t u → (v : T K) → same_tree K t v ≡ same_tree K u v
  same_left {t} {u} e v = equal_tests K t v u v (same_trans (same_sym e)) (same_trans e)

  pub same_right : {t u : T K} → Same K t u → (v : T K) → same_tree K v t ≡ same_tree K v u
  same_right {t} {u} e v = equal_tests K v t v u (λ d. same_trans d e) (λ d. same_trans d (same_sym e))

  pub same_not : (t u : T K) → same_tree K t u ≡ false → same_tree K u t ≡ false
  same_not t u e = equal_tests K u t t u (λ d. same_sym d) (λ d. same_sym d) ∙ e
