-- The evaluation of a query commutes with every homomorphism, in no more steps, and builds no tree that has no original.
use Rattle.std.proofs.Common.{◌≡◌, ℕ, zero, suc, ◌≤◌, Bool, true, false, eqb, List, [], ◌∷◌, ◌++◌, get_or, sym, refl, ap, ◌∙◌, subst, ap₂, inl, inr, arith}
use mathlib.Core.List.Memᴰ
use mathlib.Core.List.Memᴰ.{head as first}
use mathlib.Core.List.Memᴰ.{tail as later}
use mathlib.Core.List.{Memᴰ as On}
use Rattle.kinds.specs.Semiring.{Semiring, Lawful}
use Rattle.formats.specs.Trees.{trees, children}
use Rattle.formats.specs.Queries.{Query, none, document, tree_of, held, both, scaled, make, named, child, below, only_of, for_each, let_be, if_name, if_alike}
use Rattle.uxml.specs.Forests.{TreeOf as T, ForestOf as F, below_tree}
use Rattle.uxml.specs.Normal.{Normal, nil, more}
use Rattle.uxml.specs.Evaluation.{Bound, a_tree, a_forest, bound_tree, bound_forest, Scope, binding, Answer, gather, at_once, each, evaluate, the_tree, building, then_answer}
use Rattle.uxml.specs.Equality.{Pairwise, done, next, Same}
use Rattle.uxml.proofs.Lawful.{clash}
use Rattle.uxml.proofs.Same.{same_sym, same_trans}
use Rattle.uxml.proofs.Total.{at_same, at_in, nonzero_in, absent}
use Rattle.uxml.proofs.Known.{trees_in, in_trees}
use Rattle.uxml.proofs.Hom.{Hom}
use Rattle.uxml.proofs.Image.{TreeTo, ForestTo, source, empty_to, label_to, make_to, add_to, union_to, scale_to, only_to, children_to, below_to, sum_to}
use Rattle.uxml.proofs.Count.{Apart, fewer}

module _ {X Y : Type 0} (R : X → Y → Type 0) where
  pub both_at : {xs : List X} {ys : List Y} → Pairwise R xs ys → {x : X} {y : Y} → R x y → (n : ℕ) → R (get_or xs n x) (get_or ys n y)
  both_at done d n = d
  both_at (next r b) d zero = r
  both_at (next r b) d (suc n) = both_at b d n

  pub both_end : {xs : List X} {ys : List Y} → Pairwise R xs ys → {x : X} {y : Y} → R x y → Pairwise R (xs ++ (x ∷ [])) (ys ++ (y ∷ []))
  both_end done d = next d done
  both_end (next r b) d = next r (both_end b d)

module _ {X Y : Type 0} (g : X → List Y) where
  pub gather_from : {y : Y} (xs : List X) → On y (gather g xs) → (x : X) × On x xs × On y (g x)
  gather_from [] i = elim i [ ]
  gather_from (x ∷ xs) i = elim (Memᴰ.append_cases (g x) i) [
    | inl j ↦ (x, first refl, j)
    | inr j ↦ (let z = gather_from xs j in (z.0, later z.1, z.2))
  ]

  gather_to : {x : X} {y : Y} {xs : List X} → On x xs → On y (g x) → On y (gather g xs)
  gather_to {y} (first e) j = Memᴰ.append_left _ (subst (λ w. On y (g w)) e j)
  gather_to (later {x = z} i) j = Memᴰ.append_right (g z) (gather_to i j)

-- the trees of a normal forest are apart
pub trees_apart : {L : Semiring} (L✓ : Lawful L) {Y : Type 0} (R : T L → Y → Type 0) → ((t u : T L) (y : Y) → R t y → R u y → Same L u t) → {f : F L} → Normal L f → Apart R (trees f)
trees_apart L✓ R c nil = tt
trees_apart L✓ R c (more {t} {f} x e m n) = (
  λ u i y p q. let j = (trees_in f i).1 in
      nonzero_in L✓ j n (sym (at_in L✓ j n) ∙ (at_same L✓ f (c t u y p q) ∙ absent L✓ t f e)),
  trees_apart L✓ R c n,
)

module _ {K L : Semiring} {h : K.carrier → L.carrier} (hom : Hom K L h) where
  pub data BoundTo : Bound K.carrier → Bound L.carrier → Type 0 where
    tree_to : {t : T K} {t' : T L} → TreeTo hom t t' → BoundTo (a_tree t) (a_tree t')
    forest_to : {f : F K} {f' : F L} → ForestTo hom f f' → BoundTo (a_forest f) (a_forest f')

  pub record ScopeTo (s : Scope K.carrier) (s' : Scope L.carrier) : Type 0 where
    pub slots : Pairwise (ForestTo hom) s.slots s'.slots
    pub items : (i : ℕ) → h (get_or s.items i K.zero) ≡ get_or s'.items i L.zero
    pub bound : Pairwise BoundTo s.bound s'.bound

  -- every tree of the second list is the image of one of the first
  abbrev pub From : List (T K) → List (T L) → Type 0
  From s s' = (t' : T L) → On t' s' → (t : T K) × On t s × TreeTo hom t t'

  pub record To (x : Answer K.carrier) (y : Answer L.carrier) : Type 0 where
    pub forest : ForestTo hom x.forest y.forest
    pub steps : y.steps ≤ x.steps
    pub built : From x.built y.built

  pub join_from : {xs ys : List (T K)} {xs' ys' : List (T L)} → From xs xs' → From ys ys' → From (xs ++ ys) (xs' ++ ys')
  join_from {xs} {ys} {xs'} p q t' i = elim (Memᴰ.append_cases xs' i) [
    | inl j ↦ (let z = p t' j in (z.0, Memᴰ.append_left ys z.1, z.2))
    | inr j ↦ (let z = q t' j in (z.0, Memᴰ.append_right xs z.1, z.2))
  ]

  pub one_from : {t : T K} {t' : T L} → TreeTo hom t t' → From (t ∷ []) (t' ∷ [])
  one_from {t} d u i = (t, first refl, subst (TreeTo hom t) (sym (Memᴰ.eq_of_singleton i)) d)

  pub trees_from : {f : F K} {f' : F L} → ForestTo hom f f' → From (trees f) (trees f')
  trees_from {f'} p t' i = let x = source hom p (trees_in f' i).1 in (x.0, in_trees x.2, x.3)

  pub from_one : (t u : T L) (y : T K) → TreeTo hom y t → TreeTo hom y u → Same L u t
  from_one t u y p q = same_trans hom.L✓ (same_sym hom.L✓ q.same) p.same

  each_to : {g : T K → Answer K.carrier} {g' : T L → Answer L.carrier} → ((t : T K) (t' : T L) → TreeTo hom t t' → To (g t) (g' t'))
      → {f : F K} {f' : F L} → ForestTo hom f f' → To (each K g f) (each L g' f')
  each_to {g} {g'} c {f} {f'} p = record {
    forest = sum_to hom (λ t. (g t).forest) (λ t. (g' t).forest) p (λ t a i t' d. (c t t' d).forest);
    steps = fewer (λ t' t. TreeTo hom t t') _ _ (λ t' t d. (c t t' d).steps) (trees f') (trees f) (trees_apart hom.L✓ _ from_one p.to) (trees_from p);
    built = λ u' i. let x = gather_from _ (trees f') i in let y = trees_from p x.0 x.1 in let z = (c y.0 x.0 y.2).built u' x.2 in
        (z.0, gather_to _ y.1 z.1, z.2);
  }

  leaf_to : {f : F K} {f' : F L} → ForestTo hom f f' → To (at_once f) (at_once f')
  leaf_to p = record { forest = p; steps = omega arith; built = λ t' i. elim i [ ] }

  after_to : {x : Answer K.carrier} {y : Answer L.carrier} {f : F K} {f' : F L} → To x y → ForestTo hom f f'
      → To (record { forest = f; steps = suc x.steps; built = x.built }) (record { forest = f'; steps = suc y.steps; built = y.built })
  after_to a p = record { forest = p; steps = omega (arith, a.steps); built = a.built }

  building_to : (l : ℕ) {x : Answer K.carrier} {y : Answer L.carrier} → To x y → To (building K l x) (building L l y)
  building_to l a = let m = make_to hom l a.forest in
      record { forest = add_to hom m hom.one (empty_to hom); steps = omega (arith, a.steps); built = join_from a.built (one_from m) }

  then_to : {x x₂ : Answer K.carrier} {y y₂ : Answer L.carrier} → To x y → To x₂ y₂ → To (then_answer x x₂) (then_answer y y₂)
  then_to a b = record { forest = b.forest; steps = omega (arith, a.steps, b.steps); built = join_from a.built b.built }

  choose_to : {b b' : Bool} → b ≡ b' → {x x₂ : Answer K.carrier} {y y₂ : Answer L.carrier} → To x y → To x₂ y₂
      → To (elim b [ true ↦ x | false ↦ x₂ ]) (elim b' [ true ↦ y | false ↦ y₂ ])
  choose_to {b = true} {b' = true} e p q = p
  choose_to {b = true} {b' = false} e p q = clash refl e
  choose_to {b = false} {b' = true} e p q = clash refl (sym e)
  choose_to {b = false} {b' = false} e p q = q

  bound_tree_to : {b : Bound K.carrier} {b' : Bound L.carrier} → BoundTo b b' → TreeTo hom (bound_tree b) (bound_tree b')
  bound_tree_to (tree_to d) = d
  bound_tree_to (forest_to d) = make_to hom 0 (empty_to hom)

  bound_forest_to : {b : Bound K.carrier} {b' : Bound L.carrier} → BoundTo b b' → ForestTo hom (bound_forest b) (bound_forest b')
  bound_forest_to (tree_to d) = empty_to hom
  bound_forest_to (forest_to d) = d

  module _ {s : Scope K.carrier} {s' : Scope L.carrier} (p : ScopeTo s s') where
    tree_at : (v : ℕ) → TreeTo hom (the_tree K s v) (the_tree L s' v)
    tree_at v = bound_tree_to (both_at BoundTo p.bound (forest_to (empty_to hom)) v)

    bind_to : {b : Bound K.carrier} {b' : Bound L.carrier} → BoundTo b b' → ScopeTo (binding s b) (binding s' b')
    bind_to d = record { slots = p.slots; items = p.items; bound = both_end BoundTo p.bound d }

  pub commutes : (q : Query) {s : Scope K.carrier} {s' : Scope L.carrier} → ScopeTo s s' → To (evaluate K q s) (evaluate L q s')
  commutes none p = leaf_to (empty_to hom)
  commutes (document n) p = leaf_to (both_at (ForestTo hom) p.slots (empty_to hom) n)
  commutes (tree_of v) p = leaf_to (add_to hom (tree_at p v) hom.one (empty_to hom))
  commutes (held v) p = leaf_to (bound_forest_to (both_at BoundTo p.bound (forest_to (empty_to hom)) v))
  commutes (both e f) p = let a = commutes e p in let b = commutes f p in
      record { forest = union_to hom a.forest b.forest; steps = omega (arith, a.steps, b.steps); built = join_from a.built b.built }
  commutes (scaled i e) p = let a = commutes e p in after_to a (scale_to hom (p.items i) a.forest)
  commutes (make l e) p = building_to l (commutes e p)
  commutes (named v e) p = rw (← label_to hom (tree_at p v)) (building_to _ (commutes e p))
  commutes (child e) p = let a = commutes e p in after_to a (sum_to hom children children a.forest (λ t a i. children_to hom t))
  commutes (below e) p = let a = commutes e p in after_to a (sum_to hom (below_tree K) (below_tree L) a.forest (λ t a i. below_to hom t))
  commutes (only_of l e) p = let a = commutes e p in after_to a (only_to hom l a.forest)
  commutes (for_each e f) p = let a = commutes e p in then_to a (each_to (λ t t' d. commutes f (bind_to p (tree_to d))) a.forest)
  commutes (let_be e f) p = let a = commutes e p in then_to a (commutes f (bind_to p (forest_to a.forest)))
  commutes (if_name v l e f) p = let a = choose_to (ap (λ n. eqb n l) (label_to hom (tree_at p v))) (commutes e p) (commutes f p) in after_to a a.forest
  commutes (if_alike v w e f) p =
      let a = choose_to (ap₂ eqb (label_to hom (tree_at p v)) (label_to hom (tree_at p w))) (commutes e p) (commutes f p) in after_to a a.forest
