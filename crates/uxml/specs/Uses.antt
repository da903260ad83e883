-- The calls that change a store, what each makes of it or why it is refused, and uses: lists of calls.
use Rattle.std.specs.Prelude.{ℕ, suc, ◌*◌, Bool, true, not, ◌&&◌, List, [], ◌∷◌, map, length, Ok, Err, nat_le, nat_lt, slice_index_or}
use Rattle.kinds.specs.Semiring.{Semiring}
use Rattle.formats.specs.declared.refusals.Refusal.TheVariants.{IllSized, NoSuchSlot, WorkTooShort, LimitPassed}
use Rattle.formats.specs.Trees.{Forest, relabel}
use Rattle.formats.specs.Queries.{Query}
use Rattle.formats.specs.Reading.{Reading, refuse_if, ◌then◌}
use Rattle.formats.specs.Documents.{read_document}
use Rattle.formats.specs.Items.{test_items}
use Rattle.uxml.specs.Images.{image, images}
use Rattle.uxml.specs.Evaluation.{Scope, evaluate}
use Rattle.uxml.specs.Stores.{Limits, well_sized, State, new_state, storing, fits}

-- Where a carry takes its document from: the limits of the source store, the slot there, and the document,
-- each of its annotations replaced by its image, nothing merged yet. (So a use speaks of one kind alone.)
pub record Source (A : Type 0) : Type 0 where
  pub limits : Limits
  pub slot : ℕ
  pub document : Forest A

-- A call has a slot, what is handed in, and how many annotations of working memory it is lent.
pub data Call (A : Type 0) : Type 0 where
  load : (slot : ℕ) (bytes : List ℕ) (items : List A) (work : ℕ) → Call A
  run : (slot : ℕ) (query : Query) (items : List A) (budget work : ℕ) → Call A
  carry : (slot : ℕ) (source : Source A) (work : ℕ) → Call A
  clear : Call A

-- What a completed call leaves: the state, and the steps of a run.
pub record Done (A : Type 0) : Type 0 where
  pub state : State A
  pub steps : ℕ

-- The first refusals of a call, in order: ill-sized tables, a slot above 15, too little working memory.
abbrev pub entering : {X : Type 0} → (sized : Bool) (slots : Bool) → Limits → (work : ℕ) → Reading X → Reading X
entering sized slots m work x =
    refuse_if (not sized) IllSized 0
    (refuse_if (not slots) NoSuchSlot 0
    (refuse_if (nat_lt work (33 * m.trees)) WorkTooShort 0 x))

-- The last refusal: a state within the limits, reached within the budget, or none.
abbrev pub within : {A : Type 0} → Limits → (affordable : Bool) → State A → (steps : ℕ) → Reading (Done A)
within m affordable s steps = refuse_if (not (affordable && fits m s)) LimitPassed 0 (Ok (record { state = s; steps = steps }))

-- what a run evaluates its query in
abbrev pub scope_of : {A : Type 0} → State A → List A → Scope A
scope_of s items = record { slots = s.slots; items = items; bound = [] }

module _ (K : Semiring) where
  -- the item with this number
  abbrev pub item_of : List K.carrier → ℕ → K.carrier
  item_of items i = slice_index_or items i K.zero

  -- What a call makes of a state, or its refusal.
  abbrev pub outcome : Limits → State K.carrier → Call K.carrier → Reading (Done K.carrier)
  outcome m s (load n bytes items work) =
      entering (well_sized m) (nat_le n 15) m work
      (read_document bytes (length items) then λ f.
      within m true (storing K s n (image K (item_of items) f) (images K (item_of items) f)) 0)
  outcome m s (run n q items budget work) =
      entering (well_sized m) (nat_le n 15) m work
      (test_items (length items) q then λ _.
      let x = evaluate K q (scope_of s items) in
      within m (nat_le x.steps budget) (storing K s n x.forest x.built) x.steps)
  outcome m s (carry n source work) =
      entering (well_sized m && well_sized source.limits) (nat_le n 15 && nat_le source.slot 15) m work
      (within m true (storing K s n (image K (λ a. a) source.document) (images K (λ a. a) source.document)) 0)
  outcome m s clear = refuse_if (not (well_sized m)) IllSized 0 (Ok (record { state = new_state; steps = 0 }))

-- the state after a call: a call that is refused leaves it as it was
abbrev pub state_after : {A : Type 0} → State A → Reading (Done A) → State A
state_after s (Ok d) = d.state
state_after s (Err e) = s

module _ (K : Semiring) (m : Limits) where
  -- the outcomes of the calls of a list, one after the other, from a state on
  abbrev pub outcomes : State K.carrier → List (Call K.carrier) → List (Reading (Done K.carrier))
  outcomes s [] = []
  outcomes s (c ∷ cs) = let o = outcome K m s c in o ∷ outcomes (state_after s o) cs

  -- the calls of a list that complete
  abbrev pub completed : State K.carrier → List (Call K.carrier) → List (Call K.carrier)
  completed s [] = []
  completed s (c ∷ cs) = elim (outcome K m s c) [ Ok d ↦ c ∷ completed d.state cs | Err e ↦ completed s cs ]

-- A use is a list of calls on a store from its making on.
abbrev pub use_outcomes : (K : Semiring) → Limits → List (Call K.carrier) → List (Reading (Done K.carrier))
use_outcomes K m calls = outcomes K m new_state calls

-- A call repeated under a map: each annotation handed in replaced by its image, a carry's map followed by this one,
-- with working memory of its own.
abbrev pub mapped_call : {A B : Type 0} → (A → B) → (work : ℕ) → Call A → Call B
mapped_call h work (load n bytes items w) = load n bytes (map h items) work
mapped_call h work (run n q items budget w) = run n q (map h items) budget work
mapped_call h work (carry n source w) =
    carry n (record { limits = source.limits; slot = source.slot; document = relabel h source.document }) work
mapped_call h work clear = clear

-- The mapped use repeats the completed calls, each mapped; its n-th call is lent working memory of `works n` annotations.
abbrev pub mapped_calls : {A B : Type 0} → (A → B) → (works : ℕ → ℕ) → List (Call A) → List (Call B)
mapped_calls h works [] = []
mapped_calls h works (c ∷ cs) = mapped_call h (works 0) c ∷ mapped_calls h (λ n. works (suc n)) cs

abbrev pub mapped_use : (K : Semiring) {B : Type 0} → Limits → (K.carrier → B) → (works : ℕ → ℕ) → List (Call K.carrier) → List (Call B)
mapped_use K m h works calls = mapped_calls h works (completed K m new_state calls)
