-- When a tree or a forest is the image of another, and that every operation keeps it so.
use Rattle.std.proofs.Common.{◌≡◌, ℕ, cond, eqb, ◌≢◌, sym, refl, ap, ◌∙◌, ap₂, inl, inr}
use Rattle.std.proofs.lemmas.Bool.{cond-false}
use Rattle.kinds.specs.Semiring.{Semiring, Lawful}
use Rattle.formats.specs.Trees.{Tree, Forest, tree, empty, entry, label, children, In, here, there}
use Rattle.uxml.specs.Forests.{TreeOf as T, ForestOf as F, total, at, Equal, add, union, scale, sum_over, below_tree, below_each, only}
use Rattle.uxml.specs.Normal.{Normal, NormalTree, node, nil}
use Rattle.uxml.specs.Images.{image, image_tree}
use Rattle.uxml.specs.Equality.{Same}
use Rattle.uxml.proofs.Lawful.{plus_times, zero_plus, zero_times}
use Rattle.uxml.proofs.Same.{tree_ind, by_same, same_refl, same_trans, same_left, same_label, same_parts}
use Rattle.uxml.proofs.Total.{at_in, nonzero_in, in_node, normal_in, Linear, Steady, total_ext, total_add, total_union, total_scale, total_sum, total_only, only_at, at_linear, at_steady, at_only, keep_add, keep_union, keep_scale, keep_sum, keep_only, below_sum}
use Rattle.uxml.proofs.Order.{order, same_from_equal, equal_from_same}
use Rattle.uxml.proofs.Hom.{Hom}

pub sum_linear : {K : Semiring} (K✓ : Lawful K) (g : T K → F K) (v : T K) → Linear K K (λ a. a) (λ t a. K.times a (at K (g t) v))
sum_linear K✓ g v = record { at_zero = λ t. zero_times K✓ _; at_plus = λ t a b. plus_times K✓ a b _; at_times = λ t a b. K✓.times_assoc a b _ }

-- `at L (image L h f) v` is the sum of `only_image L h v` over f
abbrev pub only_image : {A : Type 0} (L : Semiring) (h : A → L.carrier) → T L → Tree A → A → L.carrier
only_image L h v t a = only_at L v (image_tree L h t) (h a)

module _ {A : Type 0} {L : Semiring} (L✓ : Lawful L) (h : A → L.carrier) where
  keep_image_of : (f : Forest A) → ((t : Tree A) (a : A) → In t a f → NormalTree L (image_tree L h t)) → Normal L (image L h f)
  keep_image_of empty k = nil
  keep_image_of (entry t a f) k = keep_add L✓ (h a) (k t a here) (keep_image_of f (λ u b i. k u b (there i)))

  pub keep_image_tree : (t : Tree A) → NormalTree L (image_tree L h t)
  keep_image_tree = tree_ind (λ t. NormalTree L (image_tree L h t)) (λ l f k. node (keep_image_of f k))

  pub keep_image : (f : Forest A) → Normal L (image L h f)
  keep_image f = keep_image_of f (λ t a i. keep_image_tree t)

  pub total_image : {M : Semiring} (M✓ : Lawful M) {s : L.carrier → M.carrier} {φ : T L → L.carrier → M.carrier} → Linear L M s φ
      → (f : Forest A) → ((t : Tree A) (a : A) → In t a f → Steady L φ (image_tree L h t)) → total M φ (image L h f) ≡ total M (λ t a. φ (image_tree L h t) (h a)) f
  total_image M✓ lin empty r = refl
  total_image {M} M✓ lin (entry t a f) r = total_add L✓ M✓ lin (image_tree L h t) (h a) (r t a here) (keep_image f) ∙ ap (M.plus _) (total_image M✓ lin f (λ u b i. r u b (there i)))

  pub at_image : (f : Forest A) (v : T L) → at L (image L h f) v ≡ total L (only_image L h v) f
  at_image f v = total_image L✓ (at_linear L✓ v) f (λ t a i. at_steady L✓ v (image_tree L h t))

module _ {K L : Semiring} {h : K.carrier → L.carrier} (hom : Hom K L h) where
  pub image_same : {t u : T K} → NormalTree K t → NormalTree K u → Same K t u → Same L (image_tree L h t) (image_tree L h u)
  image_same {t} {u} = tree_ind (λ t. (u : T K) → NormalTree K t → NormalTree K u → Same K t u → Same L (image_tree L h t) (image_tree L h u))
      (λ l f k. elim [
        | tree j g ↦ λ m n e. rw (same_parts hom.K✓ e).0 (same_from_equal hom.L✓ j (keep_image hom.L✓ h f) (keep_image hom.L✓ h g)
            (λ v. at_image hom.L✓ h f v ∙ (order hom.K✓ hom.L✓ (only_image L h v) (only_image L h v) (λ t a i u p d. rw (same_left hom.L✓ (k t a i u (normal_in i (in_node m)) p d) v))
            (in_node m) (in_node n) (equal_from_same hom.K✓ (in_node m) (in_node n) e) ∙ sym (at_image hom.L✓ h g v))))
      ]) t u

  image_linear : (v : T L) → Linear K L h (only_image L h v)
  image_linear v = record {
    at_zero = λ t. rw hom.zero ((at_linear hom.L✓ v).at_zero _);
    at_plus = λ t a b. rw hom.plus ((at_linear hom.L✓ v).at_plus _ _ _);
    at_times = λ t a b. rw hom.times ((at_linear hom.L✓ v).at_times _ _ _);
  }

  image_steady : (v : T L) (t : T K) → NormalTree K t → Steady K (only_image L h v) t
  image_steady v t m u n e a = rw (same_left hom.L✓ (image_same m n e) v)

  pub record TreeTo (t : T K) (t' : T L) : Type 0 where
    pub from : NormalTree K t
    pub to : NormalTree L t'
    pub same : Same L (image_tree L h t) t'

  pub record ForestTo (f : F K) (f' : F L) : Type 0 where
    pub from : Normal K f
    pub to : Normal L f'
    pub equal : (v : T L) → total L (only_image L h v) f ≡ at L f' v

  pub equal_image : {f : F K} {f' : F L} → ForestTo f f' → Equal L (image L h f) f'
  equal_image {f} p v = at_image hom.L✓ h f v ∙ p.equal v

  pub image_tree_to : {t : T K} → NormalTree K t → TreeTo t (image_tree L h t)
  image_tree_to {t} n = record { from = n; to = keep_image_tree hom.L✓ h t; same = same_refl hom.L✓ (image_tree L h t) }

  pub image_to : {f : F K} → Normal K f → ForestTo f (image L h f)
  image_to {f} n = record { from = n; to = keep_image hom.L✓ h f; equal = λ v. sym (at_image hom.L✓ h f v) }

  origin : (f : F K) (v : T L) → total L (only_image L h v) f ≢ L.zero → (t : T K) × (a : K.carrier) × In t a f × Same L (image_tree L h t) v
  origin empty v z = absurd (z refl)
  origin (entry t a f) v z = by_same L (image_tree L h t) v (λ e. (t, a, here, e))
      (λ e. let x = origin f v (λ y. z (ap₂ L.plus (cond-false _ _ _ e) y ∙ zero_plus hom.L✓ _)) in (x.0, x.1, there x.2, x.3))

  -- a tree of an image has an original
  pub source : {f : F K} {f' : F L} → ForestTo f f' → {t' : T L} {b : L.carrier} → In t' b f' → (t : T K) × (a : K.carrier) × In t a f × TreeTo t t'
  source {f} p {t'} i = let x = origin f t' (λ e. nonzero_in hom.L✓ i p.to (sym (at_in hom.L✓ i p.to) ∙ (sym (p.equal t') ∙ e))) in
      (x.0, x.1, x.2, record { from = normal_in x.2 p.from; to = normal_in i p.to; same = x.3 })

  -- a sum over an image is a sum over what it is the image of
  transfer : {M : Semiring} (M✓ : Lawful M) {s : L.carrier → M.carrier} {φ : T L → L.carrier → M.carrier} → Linear L M s φ → (ψ : T K → L.carrier → M.carrier)
      → {f : F K} {f' : F L} → ForestTo f f' → ((t : T K) (a : K.carrier) → In t a f → (u : T L) → TreeTo t u → (b : L.carrier) → ψ t b ≡ φ u b)
      → total M (λ t a. ψ t (h a)) f ≡ total M φ f'
  transfer {M} M✓ lin ψ {f} p c =
      let d : (t : T K) (a : K.carrier) (i : In t a f) → TreeTo t (image_tree L h t) = λ t a i. image_tree_to (normal_in i p.from) in
      total_ext M f (λ t a i. c t a i (image_tree L h t) (d t a i) (h a))
      ∙ (sym (total_image hom.L✓ h M✓ lin f (λ t a i u n e b. sym (c t a i (image_tree L h t) (d t a i) b) ∙ c t a i u (record { from = (d t a i).from; to = n; same = e }) b))
      ∙ order hom.L✓ M✓ _ _ (λ t' b i u n e. let x = source (image_to p.from) i in
      sym (c x.0 x.1 x.2 t' x.3 b) ∙ c x.0 x.1 x.2 u (record { from = x.3.from; to = n; same = same_trans hom.L✓ x.3.same e }) b)
      (keep_image hom.L✓ h f) p.to (equal_image p))

  image_label : (t : T K) → label t ≡ label (image_tree L h t)
  image_label (tree l f) = refl

  pub label_to : {t : T K} {t' : T L} → TreeTo t t' → label t ≡ label t'
  label_to {t} p = image_label t ∙ same_label hom.L✓ p.same

  pub make_to : (l : ℕ) {f : F K} {f' : F L} → ForestTo f f' → TreeTo (tree l f) (tree l f')
  make_to l {f} p = record { from = node p.from; to = node p.to; same = same_from_equal hom.L✓ l (keep_image hom.L✓ h f) p.to (equal_image p) }

  pub children_to : (t : T K) (t' : T L) → TreeTo t t' → ForestTo (children t) (children t')
  children_to (tree l f) (tree k g) p = record {
    from = in_node p.from;
    to = in_node p.to;
    equal = λ v. sym (at_image hom.L✓ h f v) ∙ equal_from_same hom.L✓ (keep_image hom.L✓ h f) (in_node p.to) p.same v;
  }

  pub empty_to : ForestTo empty empty
  empty_to = record { from = nil; to = nil; equal = λ v. refl }

  pub add_to : {t : T K} {t' : T L} {a : K.carrier} {b : L.carrier} {f : F K} {f' : F L} → TreeTo t t' → h a ≡ b → ForestTo f f' → ForestTo (add K t a f) (add L t' b f')
  add_to {t} {t'} {a} {b} d e p = record {
    from = keep_add hom.K✓ a d.from p.from;
    to = keep_add hom.L✓ b d.to p.to;
    equal = λ v. total_add hom.K✓ hom.L✓ (image_linear v) t a (image_steady v t d.from) p.from
        ∙ (ap₂ L.plus (rw e (at_steady hom.L✓ v (image_tree L h t) t' d.to d.same b)) (p.equal v)
        ∙ sym (total_add hom.L✓ hom.L✓ (at_linear hom.L✓ v) t' b (at_steady hom.L✓ v t') p.to));
  }

  pub union_to : {f g : F K} {f' g' : F L} → ForestTo f f' → ForestTo g g' → ForestTo (union K f g) (union L f' g')
  union_to p q = record {
    from = keep_union hom.K✓ p.from q.from;
    to = keep_union hom.L✓ p.to q.to;
    equal = λ v. total_union hom.K✓ hom.L✓ (image_linear v) (image_steady v) p.from q.from
        ∙ (ap₂ L.plus (p.equal v) (q.equal v) ∙ sym (total_union hom.L✓ hom.L✓ (at_linear hom.L✓ v) (λ t n. at_steady hom.L✓ v t) p.to q.to));
  }

  pub scale_to : {c : K.carrier} {d : L.carrier} {f : F K} {f' : F L} → h c ≡ d → ForestTo f f' → ForestTo (scale K c f) (scale L d f')
  scale_to {c} {d} {f} {f'} e p = record {
    from = keep_scale hom.K✓ c p.from;
    to = keep_scale hom.L✓ d p.to;
    equal = λ v. total_scale hom.K✓ hom.L✓ (image_linear v) c f ∙ (ap₂ L.times e (p.equal v) ∙ sym (total_scale hom.L✓ hom.L✓ (at_linear hom.L✓ v) d f'));
  }

  pub only_to : (l : ℕ) {f : F K} {f' : F L} → ForestTo f f' → ForestTo (only K l f) (only L l f')
  only_to l {f} {f'} p = record {
    from = keep_only hom.K✓ l p.from;
    to = keep_only hom.L✓ l p.to;
    equal = λ v. total_only K L hom.L✓ (only_image L h v) l (label v) f (λ t a. by_same L (image_tree L h t) v (λ e. inr (image_label t ∙ same_label hom.L✓ e)) (λ e. inl (cond-false _ _ _ e)))
        ∙ (ap (λ x. cond (eqb (label v) l) x L.zero) (p.equal v) ∙ sym (at_only hom.L✓ l f' v));
  }

  pub sum_to : (g : T K → F K) (g' : T L → F L) {f : F K} {f' : F L} → ForestTo f f'
      → ((t : T K) (a : K.carrier) → In t a f → (t' : T L) → TreeTo t t' → ForestTo (g t) (g' t')) → ForestTo (sum_over K g f) (sum_over L g' f')
  sum_to g g' {f} {f'} p c =
      let k : (t : T K) (a : K.carrier) → In t a f → Normal K (g t) = λ t a i. (c t a i (image_tree L h t) (image_tree_to (normal_in i p.from))).from in
      let k' : (t : T L) (b : L.carrier) → In t b f' → Normal L (g' t) = λ t b i. let x = source p i in (c x.0 x.1 x.2 t x.3).to in
      record {
        from = keep_sum hom.K✓ g f k;
        to = keep_sum hom.L✓ g' f' k';
        equal = λ v. total_sum hom.K✓ hom.L✓ (image_linear v) (image_steady v) g f k
            ∙ (transfer hom.L✓ (sum_linear hom.L✓ g' v) (λ t b. L.times b (total L (only_image L h v) (g t))) p (λ t a i u d b. ap (L.times b) ((c t a i u d).equal v))
            ∙ sym (total_sum hom.L✓ hom.L✓ (at_linear hom.L✓ v) (λ t n. at_steady hom.L✓ v t) g' f' k'));
      }

  pub below_to : (t : T K) (t' : T L) → TreeTo t t' → ForestTo (below_tree K t) (below_tree L t')
  below_to = tree_ind (λ t. (t' : T L) → TreeTo t t' → ForestTo (below_tree K t) (below_tree L t')) (λ l f k. elim [
    | tree j g ↦ λ p.
        add_to {f = below_each K f} {f' = below_each L g} p hom.one (rw (below_sum K f, below_sum L g) (sum_to (below_tree K) (below_tree L) (children_to (tree l f) (tree j g) p) k))
  ])
