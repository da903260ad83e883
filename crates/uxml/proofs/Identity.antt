-- The image under the identity is the tree itself; so equal scopes are images of one another, and answers in them are equal.
use Rattle.std.proofs.Common.{◌≡◌, true, List, [], ◌∷◌, get_or, sym, refl, ap, ◌∙◌, le_antisymm}
use Rattle.kinds.specs.Semiring.{Semiring, Lawful}
use Rattle.uxml.specs.Forests.{TreeOf as T, ForestOf as F, total, at, Equal, known}
use Rattle.uxml.specs.Normal.{Normal, NormalTree}
use Rattle.uxml.specs.Images.{image_tree}
use Rattle.uxml.specs.Evaluation.{Bound, a_tree, a_forest, Scope, evaluate}
use Rattle.uxml.specs.Equality.{Pairwise, done, next, Each, and_each, Same, NormalBound, of_tree, of_forest, NormalScope, EqualBound, same_trees, equal_forests, EqualScopes, EqualAnswers}
use Rattle.uxml.specs.Laws.{AnswersNormal, RelatesEqualScopes}
use Rattle.uxml.proofs.Lawful.{same_test}
use Rattle.uxml.proofs.Same.{tree_ind, same_refl, same_sym, same_trans, same_left}
use Rattle.uxml.proofs.Total.{in_node, normal_in, total_ext}
use Rattle.uxml.proofs.Order.{same_from_equal}
use Rattle.uxml.proofs.Hom.{hom_id}
use Rattle.uxml.proofs.Image.{only_image, keep_image, at_image, TreeTo, ForestTo}
use Rattle.uxml.proofs.Commutes.{BoundTo, tree_to, forest_to, ScopeTo, From, commutes}
use Rattle.uxml.proofs.Known.{known_find, known_from, each_from}

module _ {X Y : Type 0} {R : X → Y → Type 0} {S : X → Y → Type 0} {P : X → Type 0} {Q : Y → Type 0} where
  -- lists related place by place, whose elements all have something, are related more closely
  pub pairwise_with : ((x : X) (y : Y) → P x → Q y → R x y → S x y) → {xs : List X} {ys : List Y} → Each P xs → Each Q ys → Pairwise R xs ys → Pairwise S xs ys
  pairwise_with c p q done = done
  pairwise_with c (and_each a p) (and_each b q) (next {x} {y} r m) = next (c x y a b r) (pairwise_with c p q m)

pub pairwise_flip : {X Y : Type 0} {R : X → Y → Type 0} {S : Y → X → Type 0} → ((x : X) (y : Y) → R x y → S y x) → {xs : List X} {ys : List Y} → Pairwise R xs ys → Pairwise S ys xs
pairwise_flip c done = done
pairwise_flip c (next {x} {y} r m) = next (c x y r) (pairwise_flip c m)

pub pairwise_self : {X : Type 0} {R : X → X → Type 0} → ((x : X) → R x x) → (xs : List X) → Pairwise R xs xs
pairwise_self c [] = done
pairwise_self c (x ∷ xs) = next (c x) (pairwise_self c xs)

module _ {K : Semiring} (K✓ : Lawful K) where
  identity_tree : (t : T K) → NormalTree K t → Same K (image_tree K (λ a. a) t) t
  identity_tree = tree_ind (λ t. NormalTree K t → Same K (image_tree K (λ a. a) t) t) (λ l f h n.
      same_from_equal K✓ l (keep_image K✓ (λ a. a) f) (in_node n) (λ v. at_image K✓ (λ a. a) f v
      ∙ total_ext K f (λ t a i. rw (same_left K✓ (h t a i (normal_in i (in_node n))) v))))

  identity_sum : (f : F K) → Normal K f → (v : T K) → total K (only_image K (λ a. a) v) f ≡ at K f v
  identity_sum f n v = total_ext K f (λ t a i. rw (same_left K✓ (identity_tree t (normal_in i n)) v))

  -- equal normal forests, and same normal trees, are images under the identity
  pub equal_to : {f g : F K} → Normal K f → Normal K g → Equal K f g → ForestTo (hom_id K✓) f g
  equal_to {f} m n e = record { from = m; to = n; equal = λ v. identity_sum f m v ∙ e v }

  pub same_to : {t u : T K} → NormalTree K t → NormalTree K u → Same K t u → TreeTo (hom_id K✓) t u
  same_to {t} m n e = record { from = m; to = n; same = same_trans K✓ (identity_tree t m) e }

  to_equal : {f g : F K} → ForestTo (hom_id K✓) f g → Equal K f g
  to_equal {f} p v = sym (identity_sum f p.from v) ∙ p.equal v

  to_same : {t u : T K} → TreeTo (hom_id K✓) t u → Same K t u
  to_same {t} p = same_trans K✓ (same_sym K✓ (identity_tree t p.from)) p.same

  bound_to : (a b : Bound K.carrier) → NormalBound K a → NormalBound K b → EqualBound K a b → BoundTo (hom_id K✓) a b
  bound_to a b (of_tree m) (of_tree n) (same_trees e) = tree_to (same_to m n e)
  bound_to a b (of_tree m) (of_forest n) e = elim e [ ]
  bound_to a b (of_forest m) (of_tree n) e = elim e [ ]
  bound_to a b (of_forest m) (of_forest n) (equal_forests e) = forest_to (equal_to m n e)

  pub scope_to : {s u : Scope K.carrier} → NormalScope K s → NormalScope K u → EqualScopes K s u → ScopeTo (hom_id K✓) s u
  scope_to m n e = record {
    slots = pairwise_with (λ f g p q r. equal_to p q r) m.slots n.slots e.slots;
    items = λ i. ap (λ xs. get_or xs i K.zero) e.items;
    bound = pairwise_with bound_to m.bound n.bound e.bound;
  }

  equal_bound_self : (b : Bound K.carrier) → EqualBound K b b
  equal_bound_self (a_tree t) = same_trees (same_refl K✓ t)
  equal_bound_self (a_forest f) = equal_forests (λ v. refl)

  scopes_self : (s : Scope K.carrier) → EqualScopes K s s
  scopes_self s = record { slots = pairwise_self (λ f v. refl) s.slots; items = refl; bound = pairwise_self equal_bound_self s.bound }

  equal_bound_flip : (a b : Bound K.carrier) → EqualBound K a b → EqualBound K b a
  equal_bound_flip a b (same_trees e) = same_trees (same_sym K✓ e)
  equal_bound_flip a b (equal_forests e) = equal_forests (λ v. sym (e v))

  scopes_flip : {s u : Scope K.carrier} → EqualScopes K s u → EqualScopes K u s
  scopes_flip e = record {
    slots = pairwise_flip (λ f g r v. sym (r v)) e.slots;
    items = sym e.items;
    bound = pairwise_flip equal_bound_flip e.bound;
  }

  pub answers_normal : AnswersNormal K (evaluate K)
  answers_normal q s n = let x = commutes (hom_id K✓) q (scope_to n n (scopes_self s)) in
      record { forest = x.forest.from; built = each_from (evaluate K q s).built (λ t i. (x.built t i).2.to) }

  built_known : {xs ys : List (T K)} → From (hom_id K✓) ys xs → (t : T K) → known K t xs ≡ true → known K t ys ≡ true
  built_known {xs} p t e = let x = known_find t xs e in let y = p x.0 x.1 in known_from y.1 (same_trans K✓ x.2 (same_sym K✓ (to_same y.2)))

  pub relates_equal_scopes : RelatesEqualScopes K (EqualAnswers K)
  relates_equal_scopes q s u m n e =
      let x = commutes (hom_id K✓) q (scope_to m n e) in
      let y = commutes (hom_id K✓) q (scope_to n m (scopes_flip e)) in
      record {
        forest = to_equal x.forest;
        steps = le_antisymm y.steps x.steps;
        built = λ t. same_test (known K t (evaluate K q s).built) (known K t (evaluate K q u).built) (built_known y.built t) (built_known x.built t);
      }
