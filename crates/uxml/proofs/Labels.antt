-- Labels stay in range: what the operations, evaluation and calls make of forests whose labels are in range.
use Rattle.std.proofs.Common.{◌≡◌, ℕ, zero, suc, ◌-◌, Bool, true, false, not, ◌&&◌, eqb, ltb, leb, List, [], ◌∷◌, ◌++◌, length, get_or, refl, arith}
use Rattle.std.proofs.lemmas.Bool.{and_parts, and_from, ltb-true, lt-ltb}
use Rattle.kinds.specs.Semiring.{Semiring}
use Rattle.formats.specs.declared.commands.Sort.{Sort}
use Rattle.formats.specs.declared.commands.Sort.TheVariants.{OfTree, OfForest}
use Rattle.formats.specs.Trees.{Tree, Forest, tree, empty, entry, label, children, trees}
use Rattle.formats.specs.Queries.{Query, none, document, tree_of, held, both, scaled, make, named, child, below, only_of, for_each, let_be, if_name, if_alike}
use Rattle.formats.specs.QueryBytes.{Sorts, is_bound, same_sort}
use Rattle.formats.specs.declared.refusals.Refusal.TheVariants.{IllSized}
use Rattle.formats.specs.Documents.{read_document}
use Rattle.formats.specs.Items.{test_items}
use Rattle.formats.proofs.DocumentExact.{documents_exact_lem}
use Rattle.formats.specs.Writing.{Label, Proper, ProperTree, Sound}
use Rattle.uxml.specs.Forests.{TreeOf as T, ForestOf as F, same_tree, put, add, union, scale, sum_over, single, below_tree, below_each, only}
use Rattle.uxml.specs.Images.{image, image_tree, images, images_in}
use Rattle.uxml.specs.Evaluation.{Bound, a_tree, a_forest, bound_tree, bound_forest, Scope, Answer, after, binding, building, the_tree, the_forest, the_item, gather, evaluate}
use Rattle.uxml.specs.Equality.{Each, no_more, and_each, Pairwise, done, next}
use Rattle.uxml.specs.Stores.{Limits, well_sized, State, as_document, new_state, storing}
use Rattle.uxml.specs.Uses.{Call, load, run, carry, clear, scope_of, item_of, outcome}
use Rattle.uxml.specs.Laws.{Leaves, leaves}
use Rattle.uxml.specs.Labels.{Labelled, LabelledTree, labelled, unlisted, and_rest, a_document, a_labelled, LabelledState, CheckedCall, of_bytes, of_query, of_source, of_nothing, UsesLeaveWith}
use Rattle.uxml.proofs.Lawful.{by_test, clash}
use Rattle.uxml.proofs.Meeting.{meet_each, every_slot, leaves_if, leaves_then, leaves_entering, leaves_within, outcomes_leave}
use Rattle.uxml.proofs.Known.{each_set, each_map, each_append, each_at}
use Rattle.uxml.proofs.Commutes.{both_end}

-- the labels of a document that was read
mutual
  proper_tree : (items levels : ℕ) (t : Tree ℕ) → ProperTree items levels t → LabelledTree t
  proper_tree items levels (tree l f) p = labelled p.1 (proper items (levels - 1) f p.2)

  pub proper : (items levels : ℕ) (f : Forest ℕ) → Proper items levels f → Labelled f
  proper items levels empty p = unlisted
  proper items levels (entry t i f) p = and_rest (proper_tree items levels t p.0) (proper items levels f p.2)

children_labelled : {A : Type 0} {t : Tree A} → LabelledTree t → Labelled (children t)
children_labelled (labelled l p) = p

label_labelled : {A : Type 0} {t : Tree A} → LabelledTree t → Label (label t)
label_labelled (labelled l p) = l

module _ (K : Semiring) where
  label_put : {t : T K} (a : K.carrier) {f : F K} → LabelledTree t → Labelled f → Labelled (put K t a f)
  label_put a p q = by_test (K.same a K.zero) (λ e. rw e q) (λ e. rw e (and_rest p q))

  label_add : {t : T K} (a : K.carrier) {f : F K} → LabelledTree t → Labelled f → Labelled (add K t a f)
  label_add a p unlisted = label_put a p unlisted
  label_add {t} a p (and_rest {t = u} {a = b} q r) = by_test (same_tree K t u) (λ e. rw e (label_put (K.plus a b) q r)) (λ e. rw e (and_rest q (label_add a p r)))

  label_union : {f g : F K} → Labelled f → Labelled g → Labelled (union K f g)
  label_union unlisted q = q
  label_union (and_rest {a} p r) q = label_add a p (label_union r q)

  label_scale : (c : K.carrier) {f : F K} → Labelled f → Labelled (scale K c f)
  label_scale c unlisted = unlisted
  label_scale c (and_rest {a} p q) = label_put (K.times c a) p (label_scale c q)

  label_single : {t : T K} → LabelledTree t → Labelled (single K t)
  label_single p = label_put K.one p unlisted

  -- a sum over the trees of a forest, of which each gives labels in range
  label_sum : (g : T K → F K) → ((t : T K) → LabelledTree t → Labelled (g t)) → {f : F K} → Labelled f → Labelled (sum_over K g f)
  label_sum g h unlisted = unlisted
  label_sum g h (and_rest {t} {a} p q) = label_union (label_scale a (h t p)) (label_sum g h q)

  mutual
    label_below : (t : T K) → LabelledTree t → Labelled (below_tree K t)
    label_below (tree l f) p = label_add K.one p (label_below_each f (children_labelled p))

    label_below_each : (f : F K) → Labelled f → Labelled (below_each K f)
    label_below_each empty p = unlisted
    label_below_each (entry t a f) (and_rest p q) = label_union (label_scale a (label_below t p)) (label_below_each f q)

  label_only : (l : ℕ) {f : F K} → Labelled f → Labelled (only K l f)
  label_only l unlisted = unlisted
  label_only l (and_rest {t} p q) = by_test (eqb (label t) l) (λ e. rw e (and_rest p (label_only l q))) (λ e. rw e (label_only l q))

  -- images, and the trees that a load or a carry meets
  module _ {A : Type 0} (h : A → K.carrier) where
    mutual
      label_image_tree : (t : Tree A) → LabelledTree t → LabelledTree (image_tree K h t)
      label_image_tree (tree l f) p = labelled (label_labelled p) (label_image f (children_labelled p))

      pub label_image : (f : Forest A) → Labelled f → Labelled (image K h f)
      label_image empty p = unlisted
      label_image (entry t a f) (and_rest p q) = label_add (h a) (label_image_tree t p) (label_image f q)

    mutual
      label_images_in : (t : Tree A) → LabelledTree t → Each LabelledTree (images_in K h t)
      label_images_in (tree l f) p = and_each (label_image_tree (tree l f) p) (label_images f (children_labelled p))

      pub label_images : (f : Forest A) → Labelled f → Each LabelledTree (images K h f)
      label_images empty p = no_more
      label_images (entry t a f) (and_rest p q) = each_append (label_images_in t p) (label_images f q)

-- what a variable of a sort stands for
data HasSort {A : Type 0} : Sort → Bound A → Type 0 where
  tree_sort : {t : Tree A} → LabelledTree t → HasSort OfTree (a_tree t)
  forest_sort : {f : Forest A} → Labelled f → HasSort OfForest (a_forest f)

same_sorts : (s r : Sort) → same_sort s r ≡ true → s ≡ r
same_sorts OfTree OfTree e = refl
same_sorts OfTree OfForest e = clash e refl
same_sorts OfForest OfTree e = clash e refl
same_sorts OfForest OfForest e = refl

-- a variable that is bound with a sort stands for something of that sort
has_sort : {A : Type 0} (sorts : Sorts) (bs : List (Bound A)) → Pairwise HasSort sorts bs → (v : ℕ) (s : Sort) (d : Bound A) → is_bound sorts v s ≡ true → HasSort s (get_or bs v d)
has_sort [] bs done v s d e = let h = ltb-true v 0 (and_parts (ltb v 0) (same_sort OfTree s) e).0 in absurd (omega arith)
has_sort (x ∷ sorts) bs (next {y = b} h p) zero s d e =
    let k = same_sorts x s (and_parts (ltb 0 (suc (length sorts))) (same_sort x s) e).1 in rw k at h
has_sort (x ∷ sorts) bs (next {ys = ys} h p) (suc v) s d e =
    let k = and_parts (ltb (suc v) (suc (length sorts))) (same_sort (get_or sorts v OfTree) s) e in
    let l = ltb-true (suc v) (suc (length sorts)) k.0 in
    has_sort sorts ys p v s d (and_from (ltb v (length sorts)) (same_sort (get_or sorts v OfTree) s) (lt-ltb v (length sorts) (omega arith)) k.1)

sorted_tree : {A : Type 0} {b : Bound A} → HasSort OfTree b → LabelledTree (bound_tree b)
sorted_tree (tree_sort p) = p

sorted_forest : {A : Type 0} {b : Bound A} → HasSort OfForest b → Labelled (bound_forest b)
sorted_forest (forest_sort p) = p

each_gather : {A B : Type 0} {P : B → Type 0} (g : Tree A → List B) → ((t : Tree A) → LabelledTree t → Each P (g t)) → {f : Forest A} → Labelled f → Each P (gather g (trees f))
each_gather g h unlisted = no_more
each_gather g h (and_rest {t} p q) = each_append (h t p) (each_gather g h q)

module _ (K : Semiring) where
  record LabelledAnswer (x : Answer K.carrier) : Type 0 where
    forest : Labelled x.forest
    built : Each LabelledTree x.built

  -- a scope whose documents and variables have labels in range, and variables of the sorts given
  record LabelledScope (sorts : Sorts) (s : Scope K.carrier) : Type 0 where
    slots : Each Labelled s.slots
    bound : Pairwise HasSort sorts s.bound

  module _ {sorts : Sorts} {s : Scope K.carrier} (p : LabelledScope sorts s) where
    tree_variable : (v : ℕ) → is_bound sorts v OfTree ≡ true → LabelledTree (the_tree K s v)
    tree_variable v e = sorted_tree (has_sort sorts s.bound p.bound v OfTree (a_forest empty) e)

    forest_variable : (v : ℕ) → is_bound sorts v OfForest ≡ true → Labelled (the_forest K s v)
    forest_variable v e = sorted_forest (has_sort sorts s.bound p.bound v OfForest (a_forest empty) e)

    bind : {r : Sort} {b : Bound K.carrier} → HasSort r b → LabelledScope (sorts ++ (r ∷ [])) (binding s b)
    bind h = record { slots = p.slots; bound = both_end HasSort p.bound h }

  alone : {f : F K} → Labelled f → LabelledAnswer (record { forest = f; steps = 1; built = [] })
  alone p = record { forest = p; built = no_more }

  made : {l : ℕ} {x : Answer K.carrier} → Label l → LabelledAnswer x → LabelledAnswer (building K l x)
  made h a = let t = labelled h a.forest in record { forest = label_single K t; built = each_append a.built (and_each t no_more) }

  chosen : (b : Bool) {x y : Answer K.carrier} → LabelledAnswer x → LabelledAnswer y → LabelledAnswer (after (λ f. f) (elim b [ true ↦ x | false ↦ y ]))
  chosen true p q = record { forest = p.forest; built = p.built }
  chosen false p q = record { forest = q.forest; built = q.built }

  label_answer : (q : Query) (levels : ℕ) (sorts : Sorts) (s : Scope K.carrier) → Sound levels sorts q → LabelledScope sorts s → LabelledAnswer (evaluate K q s)
  label_answer none levels sorts s w p = alone unlisted
  label_answer (document n) levels sorts s w p = alone (each_at Labelled unlisted p.slots n)
  label_answer (tree_of v) levels sorts s w p = alone (label_single K (tree_variable p v w.1))
  label_answer (held v) levels sorts s w p = alone (forest_variable p v w.1)
  label_answer (both e f) levels sorts s w p =
      let a = label_answer e (levels - 1) sorts s w.1 p in let b = label_answer f (levels - 1) sorts s w.2 p in
      record { forest = label_union K a.forest b.forest; built = each_append a.built b.built }
  label_answer (scaled i e) levels sorts s w p =
      let a = label_answer e (levels - 1) sorts s w.2 p in record { forest = label_scale K (the_item K s i) a.forest; built = a.built }
  label_answer (make l e) levels sorts s w p = made w.1 (label_answer e (levels - 1) sorts s w.2 p)
  label_answer (named v e) levels sorts s w p = made (label_labelled (tree_variable p v w.1)) (label_answer e (levels - 1) sorts s w.2 p)
  label_answer (child e) levels sorts s w p =
      let a = label_answer e (levels - 1) sorts s w.1 p in record { forest = label_sum K children (λ t. children_labelled) a.forest; built = a.built }
  label_answer (below e) levels sorts s w p =
      let a = label_answer e (levels - 1) sorts s w.1 p in record { forest = label_sum K (below_tree K) (label_below K) a.forest; built = a.built }
  label_answer (only_of l e) levels sorts s w p =
      let a = label_answer e (levels - 1) sorts s w.2 p in record { forest = label_only K l a.forest; built = a.built }
  label_answer (for_each e f) levels sorts s w p =
      let a = label_answer e (levels - 1) sorts s w.2 p in
      let body : (t : T K) → LabelledTree t → LabelledAnswer (evaluate K f (binding s (a_tree t))) =
      λ t h. label_answer f (levels - 1) (sorts ++ (OfTree ∷ [])) (binding s (a_tree t)) w.3 (bind p (tree_sort h)) in
      record {
        forest = label_sum K (λ t. (evaluate K f (binding s (a_tree t))).forest) (λ t h. (body t h).forest) a.forest;
        built = each_append a.built (each_gather (λ t. (evaluate K f (binding s (a_tree t))).built) (λ t h. (body t h).built) a.forest);
      }
  label_answer (let_be e f) levels sorts s w p =
      let a = label_answer e (levels - 1) sorts s w.2 p in
      let g = (evaluate K e s).forest in
      let b = label_answer f (levels - 1) (sorts ++ (OfForest ∷ [])) (binding s (a_forest g)) w.3 (bind p (forest_sort a.forest)) in
      record { forest = b.forest; built = each_append a.built b.built }
  label_answer (if_name v l e f) levels sorts s w p =
      chosen (eqb (label (the_tree K s v)) l) (label_answer e (levels - 1) sorts s w.3 p) (label_answer f (levels - 1) sorts s w.4 p)
  label_answer (if_alike v u e f) levels sorts s w p =
      chosen (eqb (label (the_tree K s v)) (label (the_tree K s u))) (label_answer e (levels - 1) sorts s w.3 p) (label_answer f (levels - 1) sorts s w.4 p)

  -- a document stored, with the trees met for it
  label_storing : {s : State K.carrier} → LabelledState s → (n : ℕ) {f : F K} {met : List (T K)} → Labelled f → Each LabelledTree met → LabelledState (storing K s n f met)
  label_storing {s} p n {f} {met} h e = record {
    documents = each_set p.documents h n;
    stock = meet_each K (met ++ (as_document f ∷ [])) s.stock (each_append (each_map (λ t. a_labelled) e) (and_each (a_document h) no_more)) p.stock;
  }

  label_new : LabelledState (new_state {A = K.carrier})
  label_new = record { documents = every_slot unlisted; stock = and_each (a_document unlisted) no_more }

  label_outcome : (m : Limits) (s : State K.carrier) → LabelledState s → (c : Call K.carrier) → CheckedCall c → Leaves LabelledState (outcome K m s c)
  label_outcome m s p (load n bytes items work) (of_bytes small) = let h = item_of K items in
      leaves_entering (well_sized m) (leb n 15) m work (leaves_then (read_document bytes (length items)) _ (λ f e.
      let l = proper (length items) 32 f (documents_exact_lem bytes (length items) f small e).1.proper in
      leaves_within LabelledState m true _ 0 (label_storing p n (label_image K h f l) (label_images K h f l))))
  label_outcome m s p (run n q items budget work) (of_query w) =
      let x = evaluate K q (scope_of s items) in
      let a = label_answer q 17 [] (scope_of s items) w (record { slots = p.documents; bound = done }) in
      leaves_entering (well_sized m) (leb n 15) m work (leaves_then (test_items (length items) q) _ (λ z e.
      leaves_within LabelledState m (leb x.steps budget) _ x.steps (label_storing p n a.forest a.built)))
  label_outcome m s p (carry n source work) (of_source l) = let h : K.carrier → K.carrier = λ a. a in let f = source.document in
      leaves_entering (well_sized m && well_sized source.limits) (leb n 15 && leb source.slot 15) m work
      (leaves_within LabelledState m true _ 0 (label_storing p n (label_image K h f l) (label_images K h f l)))
  label_outcome m s p clear of_nothing = leaves_if (not (well_sized m)) IllSized 0 (leaves label_new)

  pub uses_leave_labelled : UsesLeaveWith K CheckedCall LabelledState
  uses_leave_labelled m calls e = outcomes_leave K CheckedCall LabelledState label_outcome m calls e new_state label_new
