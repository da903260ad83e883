-- What meeting trees makes of a stock; what every call keeps holds after each call of a use; so all states are normal.
use Rattle.std.proofs.Common.{◌≡◌, ℕ, ◌*◌, Bool, true, false, cond, not, ◌&&◌, ◌||◌, ltb, leb, List, [], ◌∷◌, ◌++◌, length, Ok, Err, sym, refl, ap, ◌∙◌, length-set}
use Rattle.std.proofs.lemmas.Bool.{or_left, or_right, cond-true, cond-false}
use Rattle.kinds.specs.Semiring.{Semiring, Lawful}
use Rattle.formats.specs.declared.refusals.Refusal.{Refusal}
use Rattle.formats.specs.declared.refusals.Refusal.TheVariants.{IllSized, NoSuchSlot, WorkTooShort, LimitPassed}
use Rattle.formats.specs.Trees.{Tree, Forest, tree, empty, entry}
use Rattle.formats.specs.Reading.{Reading, refuse_if, ◌then◌}
use Rattle.formats.specs.Documents.{read_document}
use Rattle.formats.specs.Items.{test_items}
use Rattle.uxml.specs.Forests.{TreeOf as T, ForestOf as F, same_tree, known}
use Rattle.uxml.specs.Normal.{Normal, NormalTree, node, nil}
use Rattle.uxml.specs.Images.{image, images, images_in}
use Rattle.uxml.specs.Evaluation.{evaluate}
use Rattle.uxml.specs.Stores.{Limits, well_sized, State, as_document, new_state, meet, storing, fits}
use Rattle.uxml.specs.Uses.{Call, load, run, carry, clear, Done, within, entering, scope_of, item_of, outcome, outcomes, state_after}
use Rattle.uxml.specs.Equality.{Each, no_more, and_each, Same}
use Rattle.uxml.specs.Laws.{Distinct, MeetsAsASet, NormalState, Leaves, refused, leaves, UsesLeave}
use Rattle.uxml.proofs.Lawful.{by_test}
use Rattle.uxml.proofs.Same.{same_refl, same_trans}
use Rattle.uxml.proofs.Image.{keep_image, keep_image_tree}
use Rattle.uxml.proofs.Known.{known_find, known_from, each_from, each_set, each_map, each_append}
use Rattle.uxml.proofs.Identity.{answers_normal}

pub every_slot : {A : Type 0} {P : Forest A → Type 0} → P empty → Each P (new_state {A = A}).slots
every_slot p =
    and_each p (and_each p (and_each p (and_each p (and_each p (and_each p (and_each p (and_each p
    (and_each p (and_each p (and_each p (and_each p (and_each p (and_each p (and_each p (and_each p no_more)))))))))))))))

-- what a call leaves that is refused for a ground, or goes on
module _ {A : Type 0} where
  pub leaves_if : {P : State A → Type 0} (b : Bool) (r : Refusal) (at : ℕ) {x : Reading (Done A)} → Leaves P x → Leaves P (refuse_if b r at x)
  leaves_if true r at p = refused
  leaves_if false r at p = p

  pub leaves_then : {P : State A → Type 0} {X : Type 0} (x : Reading X) (c : X → Reading (Done A)) → ((z : X) → x ≡ Ok z → Leaves P (c z)) → Leaves P (x then c)
  leaves_then (Ok z) c p = p z refl
  leaves_then (Err e) c p = refused

  pub leaves_entering : {P : State A → Type 0} (sized slots : Bool) (m : Limits) (work : ℕ) {x : Reading (Done A)} → Leaves P x → Leaves P (entering sized slots m work x)
  leaves_entering sized slots m work p =
      leaves_if (not sized) IllSized 0 (leaves_if (not slots) NoSuchSlot 0 (leaves_if (ltb work (33 * m.trees)) WorkTooShort 0 p))

  pub leaves_within : (P : State A → Type 0) (m : Limits) (affordable : Bool) (s : State A) (steps : ℕ) → P s → Leaves P (within m affordable s steps)
  leaves_within P m affordable s steps p = leaves_if (not (affordable && fits m s)) LimitPassed 0 (leaves p)

  -- what a call leaves, refused or completed
  after : (P : State A → Type 0) (s : State A) → P s → (o : Reading (Done A)) → Leaves P o → P (state_after s o)
  after P s p (Ok d) (leaves q) = q
  after P s p (Err e) q = p

module _ (K : Semiring) where
  pub meet_each : {P : T K → Type 0} (ts s : List (T K)) → Each P ts → Each P s → Each P (meet K ts s)
  meet_each [] s no_more e = e
  meet_each (t ∷ ts) s (and_each p q) e = by_test (known K t s) (λ d. rw d (meet_each ts s q e)) (λ d. rw d (meet_each ts (t ∷ s) q (and_each p e)))

  -- what every call with Q keeps of a state holds after each call of a list
  module _ (Q : Call K.carrier → Type 0) (P : State K.carrier → Type 0)
      (keeps : (m : Limits) (s : State K.carrier) → P s → (c : Call K.carrier) → Q c → Leaves P (outcome K m s c)) where
    pub outcomes_leave : (m : Limits) (cs : List (Call K.carrier)) → Each Q cs → (s : State K.carrier) → P s → Each (Leaves P) (outcomes K m s cs)
    outcomes_leave m [] no_more s p = no_more
    outcomes_leave m (c ∷ cs) (and_each q e) s p = let o = keeps m s p c q in let n = outcome K m s c in and_each o (outcomes_leave m cs e (state_after s n) (after P s p n o))

module _ {K : Semiring} (K✓ : Lawful K) where
  -- same trees are known alike
  known_same : {t u : T K} → Same K t u → (ts : List (T K)) → known K u ts ≡ true → known K t ts ≡ true
  known_same d ts e = let x = known_find _ ts e in known_from x.1 (same_trans K✓ d x.2)

  -- a stock with the tree t, which it may have had
  kept : (u t : T K) (s : List (T K)) → known K u (cond (known K t s) s (t ∷ s)) ≡ (same_tree K u t || known K u s)
  kept u t s = by_test (known K t s)
      (λ e. ap (known K u) (cond-true (known K t s) s (t ∷ s) e) ∙ by_test (same_tree K u t)
      (λ d. known_same {t = u} {u = t} (record { is = d }) s e ∙ sym (or_left (same_tree K u t) (known K u s) d))
      (λ d. sym (ap (λ b. b || known K u s) d)))
      (λ e. ap (known K u) (cond-false (known K t s) s (t ∷ s) e))

  or_turn : (a b c : Bool) → (b || (a || c)) ≡ ((a || b) || c)
  or_turn true true c = refl
  or_turn true false c = refl
  or_turn false true c = refl
  or_turn false false c = refl

  meet_members : (ts s : List (T K)) (u : T K) → known K u (meet K ts s) ≡ (known K u ts || known K u s)
  meet_members [] s u = refl
  meet_members (t ∷ ts) s u = meet_members ts (cond (known K t s) s (t ∷ s)) u ∙ ap (λ b. known K u ts || b) (kept u t s) ∙ or_turn (same_tree K u t) (known K u ts) (known K u s)

  meet_distinct : (ts s : List (T K)) → Distinct K s → Distinct K (meet K ts s)
  meet_distinct [] s d = d
  meet_distinct (t ∷ ts) s d = by_test (known K t s) (λ e. rw e (meet_distinct ts s d)) (λ e. rw e (meet_distinct ts (t ∷ s) (e, d)))

  pub meets_as_a_set : (ts s : List (T K)) → MeetsAsASet K (meet K) ts s
  meets_as_a_set ts s = record { members = meet_members ts s; once = meet_distinct ts s }

  known_last : (t : T K) (ts : List (T K)) → known K t (ts ++ (t ∷ [])) ≡ true
  known_last t [] = or_left (same_tree K t t) false (same_refl K✓ t).is
  known_last t (u ∷ ts) = or_right (same_tree K t u) (known K t (ts ++ (t ∷ []))) (known_last t ts)

  storing_normal : {s : State K.carrier} → NormalState K s → (n : ℕ) (f : F K) (met : List (T K)) → Normal K f → Each (NormalTree K) met
      → NormalState K (storing K s n f met)
  storing_normal {s} p n f met k e =
      let all : List (T K) = met ++ (as_document f ∷ []) in
      record {
        sixteen = length-set s.slots n f ∙ p.sixteen;
        documents = each_set p.documents k n;
        stocked = each_set
            (each_map (λ g i. meet_members all s.stock (as_document g) ∙ or_right (known K (as_document g) all) (known K (as_document g) s.stock) i) p.stocked)
            (meet_members all s.stock (as_document f) ∙ or_left (known K (as_document f) all) (known K (as_document f) s.stock) (known_last (as_document f) met)) n;
        stock = meet_each K all s.stock (each_append e (and_each (node k) no_more)) p.stock;
        once = meet_distinct all s.stock p.once;
      }

  new_normal : NormalState K new_state
  new_normal = record {
    sixteen = refl;
    documents = every_slot nil;
    stocked = every_slot (known_last (as_document empty) []);
    stock = and_each (node nil) no_more;
    once = (refl, tt);
  }

  -- the images that a load or a carry meets
  module _ {A : Type 0} (h : A → K.carrier) where
    mutual
      images_in_normal : (t : Tree A) → Each (NormalTree K) (images_in K h t)
      images_in_normal (tree l f) = and_each (keep_image_tree K✓ h (tree l f)) (images_normal f)

      images_normal : (f : Forest A) → Each (NormalTree K) (images K h f)
      images_normal empty = no_more
      images_normal (entry t a f) = each_append (images_in_normal t) (images_normal f)

  pub outcome_normal : (m : Limits) {s : State K.carrier} → NormalState K s → (c : Call K.carrier) → Leaves (NormalState K) (outcome K m s c)
  outcome_normal m {s} p (load n bytes items work) = let h = item_of K items in
      leaves_entering (well_sized m) (leb n 15) m work (leaves_then (read_document bytes (length items)) _ (λ f e.
      leaves_within (NormalState K) m true _ 0 (storing_normal p n (image K h f) (images K h f) (keep_image K✓ h f) (images_normal h f))))
  outcome_normal m {s} p (run n q items budget work) =
      let x = evaluate K q (scope_of s items) in
      let a = answers_normal K✓ q (scope_of s items) (record { slots = p.documents; bound = no_more }) in
      leaves_entering (well_sized m) (leb n 15) m work (leaves_then (test_items (length items) q) _ (λ z e.
      leaves_within (NormalState K) m (leb x.steps budget) _ x.steps (storing_normal p n x.forest x.built a.forest a.built)))
  outcome_normal m {s} p (carry n source work) = let h : K.carrier → K.carrier = λ a. a in let f = source.document in
      leaves_entering (well_sized m && well_sized source.limits) (leb n 15 && leb source.slot 15) m work
      (leaves_within (NormalState K) m true _ 0 (storing_normal p n (image K h f) (images K h f) (keep_image K✓ h f) (images_normal h f)))
  outcome_normal m {s} p clear = leaves_if (not (well_sized m)) IllSized 0 (leaves new_normal)

  pub uses_leave_normal : UsesLeave K (NormalState K)
  uses_leave_normal m calls =
      outcomes_leave K (λ c. Unit {0}) (NormalState K) (λ m s p c q. outcome_normal m p c) m calls (each_from calls (λ c i. tt)) new_state new_normal
