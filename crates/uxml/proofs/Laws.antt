-- The laws of the definitions, each in the form in which it is stated.
use Rattle.std.proofs.Common.{◌≡◌, ℕ, Bool, true, false, cond, get_or, Decides, sym, refl, ap, ◌∙◌}
use Rattle.kinds.specs.Semiring.{Semiring, Lawful}
use Rattle.formats.specs.Trees.{Forest, tree, empty, children, In}
use Rattle.formats.specs.Queries.{Query, both, scaled, child, below, only_of, for_each}
use Rattle.uxml.specs.Forests.{TreeOf as T, ForestOf as F, total, same_tree, at, Equal, sum_over, single, below_tree, below_each}
use Rattle.uxml.specs.Normal.{Normal, NormalTree, node, nil}
use Rattle.uxml.specs.Images.{image}
use Rattle.uxml.specs.Evaluation.{Bound, a_tree, a_forest, bound_tree, Scope, Answer, after, binding, the_tree, the_item}
use Rattle.uxml.specs.Equality.{no_more, and_each, Same, NormalBound, of_tree, of_forest, NormalScope}
use Rattle.uxml.specs.Laws.{Equivalence, ListsItsTrees, MakesNormal, gives, one_at, sum_at, GivesTheSum, GivesTheMultiple, GivesTheChildren, GivesAllBelow, GivesThoseLabelled, GivesForEach, IsAllBelow, AddsImages}
use Rattle.uxml.proofs.Same.{tree_ind, same_refl, same_sym, same_trans, same_parts}
use Rattle.uxml.proofs.Total.{at_in, nonzero_in, in_node, normal_in, total_ext, total_add, total_union, total_scale, total_sum, at_linear, at_steady, at_only, keep_add, keep_sum, below_sum}
use Rattle.uxml.proofs.Order.{find_in, same_from_equal, equal_from_same}
use Rattle.uxml.proofs.Image.{keep_image, at_image}
use Rattle.uxml.proofs.Known.{each_at, each_append}
use Rattle.uxml.proofs.Identity.{answers_normal}

pub bound_tree_normal : {K : Semiring} {b : Bound K.carrier} → NormalBound K b → NormalTree K (bound_tree b)
bound_tree_normal (of_tree m) = m
bound_tree_normal (of_forest m) = node nil

children_normal : {K : Semiring} {t : T K} → NormalTree K t → Normal K (children t)
children_normal (node n) = n

-- what the chosen of two answers gives
pub chosen : (K : Semiring) (b : Bool) (x y : Answer K.carrier) (v : T K)
    → at K (after (λ f. f) (elim b [ true ↦ x | false ↦ y ])).forest v ≡ cond b (at K x.forest v) (at K y.forest v)
chosen K true x y v = refl
chosen K false x y v = refl

module _ {K : Semiring} (K✓ : Lawful K) where
  pub equivalence : Equivalence (Same K)
  equivalence = record { reflexive = same_refl K✓; symmetric = λ t u. same_sym K✓; transitive = λ t u v. same_trans K✓ }

  pub tells_equal_trees : (l m : ℕ) (f g : F K) → Normal K f → Normal K g → Decides (same_tree K (tree l f) (tree m g)) ((l ≡ m) × Equal K f g)
  tells_equal_trees l m f g p q = (
    λ e. let d : Same K (tree l f) (tree m g) = record { is = e } in ((same_parts K✓ d).0, equal_from_same K✓ p q d),
    λ e. ap (λ n. same_tree K (tree l f) (tree n g)) (sym e.0) ∙ (same_from_equal K✓ l p q e.1).is,
  )

  pub lists_its_trees : (f : F K) → Normal K f → ListsItsTrees K f
  lists_its_trees f n = record { listed = λ t a i. (at_in K✓ i n, nonzero_in K✓ i n); present = λ t z. find_in K✓ t n refl z }

  pub keep_single : MakesNormal K (single K)
  keep_single t n = keep_add K✓ K.one n nil

  pub keep_below : MakesNormal K (below_tree K)
  keep_below = tree_ind (λ t. NormalTree K t → Normal K (below_tree K t)) (λ l f h n.
      keep_add K✓ K.one {f = below_each K f} n (rw (below_sum K f) (keep_sum K✓ (below_tree K) f (λ t a i. h t a i (normal_in i (in_node n))))))

  -- the annotations of sums of forests
  module _ {f : F K} (n : Normal K f) where
    sum_is : (φ : T K → K.carrier) → total K (λ t a. K.times a (φ t)) f ≡ sum_at K f φ
    sum_is φ = total_ext K f (λ t a i. ap (λ b. K.times b (φ t)) (sym (at_in K✓ i n)))

    pub at_sum_over : (g : T K → F K) → ((t : T K) (a : K.carrier) → In t a f → Normal K (g t)) → (v : T K)
        → at K (sum_over K g f) v ≡ sum_at K f (λ t. at K (g t) v)
    at_sum_over g k v = total_sum K✓ K✓ (at_linear K✓ v) (λ t j. at_steady K✓ v t) g f k ∙ sum_is (λ t. at K (g t) v)

  pub at_single : (t v : T K) → at K (single K t) v ≡ one_at K t v
  at_single t v = total_add K✓ K✓ (at_linear K✓ v) t K.one (at_steady K✓ v t) nil ∙ K✓.plus_zero _

  pub all_below : IsAllBelow K (below_tree K)
  all_below (tree l f) n v =
      let m = in_node n in
      let k : (t : T K) (a : K.carrier) → In t a f → Normal K (below_tree K t) = λ t a i. keep_below t (normal_in i m) in
      total_add K✓ K✓ (at_linear K✓ v) (tree l f) K.one {f = below_each K f} (at_steady K✓ v (tree l f)) (rw (below_sum K f) (keep_sum K✓ (below_tree K) f k))
      ∙ ap (K.plus (one_at K (tree l f) v)) (ap (λ g. at K g v) (below_sum K f) ∙ at_sum_over m (below_tree K) k v)

  -- the variables and slots of a normal scope are normal, and so is what queries give in it
  module _ {s : Scope K.carrier} (n : NormalScope K s) where
    pub slot_normal : (i : ℕ) → Normal K (get_or s.slots i empty)
    slot_normal = each_at (Normal K) nil n.slots

    pub bound_normal : (x : ℕ) → NormalBound K (get_or s.bound x (a_forest empty))
    bound_normal = each_at (NormalBound K) (of_forest nil) n.bound

    pub the_tree_normal : (x : ℕ) → NormalTree K (the_tree K s x)
    the_tree_normal x = bound_tree_normal (bound_normal x)

    binding_normal : {b : Bound K.carrier} → NormalBound K b → NormalScope K (binding s b)
    binding_normal m = record { slots = n.slots; bound = each_append n.bound (and_each m no_more) }

    gives_normal : (q : Query) → Normal K (gives K q s)
    gives_normal q = (answers_normal K✓ q s n).forest

    -- a tree listed in what a query gives, as a new variable
    tree_scope : (q : Query) (t : T K) (a : K.carrier) → In t a (gives K q s) → NormalScope K (binding s (a_tree t))
    tree_scope q t a i = binding_normal (of_tree (normal_in i (gives_normal q)))

  pub gives_the_sum : GivesTheSum K both
  gives_the_sum e f s n v = total_union K✓ K✓ (at_linear K✓ v) (λ t k. at_steady K✓ v t) (gives_normal n e) (gives_normal n f)

  pub gives_the_multiple : GivesTheMultiple K scaled
  gives_the_multiple i e s n v = total_scale K✓ K✓ (at_linear K✓ v) (the_item K s i) (gives K e s) ∙ K✓.times_comm _ _

  pub gives_the_children : GivesTheChildren K child
  gives_the_children e s n v = let m = gives_normal n e in at_sum_over m children (λ t a i. children_normal (normal_in i m)) v

  pub gives_all_below : GivesAllBelow K below
  gives_all_below e s n v = let m = gives_normal n e in at_sum_over m (below_tree K) (λ t a i. keep_below t (normal_in i m)) v

  pub gives_those_labelled : GivesThoseLabelled K only_of
  gives_those_labelled l e s n v = at_only K✓ l (gives K e s) v

  pub gives_for_each : GivesForEach K for_each
  gives_for_each e f s n v =
      at_sum_over (gives_normal n e) (λ t. gives K f (binding s (a_tree t))) (λ t a i. gives_normal (tree_scope n e t a i) f) v

pub adds_images : {A : Type 0} {L : Semiring} (L✓ : Lawful L) (h : A → L.carrier) (f : Forest A) → AddsImages L h f (image L h f)
adds_images L✓ h f = record { normal = keep_image L✓ h f; sums = at_image L✓ h f }
