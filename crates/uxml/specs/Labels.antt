-- Labels: from 1 to 65,535 in every tree, at every level; label 0 marks a document in the stock, and nothing else.
use Rattle.std.specs.Prelude.{ℕ, List, []}
use Rattle.kinds.specs.Semiring.{Semiring}
use Rattle.formats.specs.Trees.{Tree, Forest, tree, empty, entry}
use Rattle.formats.specs.Queries.{Query}
use Rattle.formats.specs.Writing.{Label, Sound}
use Rattle.formats.specs.Laws.{Bytes}
use Rattle.uxml.specs.Stores.{Limits, State, as_document}
use Rattle.uxml.specs.Uses.{Call, load, run, carry, clear, Source, use_outcomes}
use Rattle.uxml.specs.Equality.{Each}
use Rattle.uxml.specs.Laws.{Leaves}

mutual
  pub data LabelledTree {A : Type 0} : Tree A → Type 0 where
    labelled : {l : ℕ} {f : Forest A} → Label l → Labelled f → LabelledTree (tree l f)

  pub data Labelled {A : Type 0} : Forest A → Type 0 where
    unlisted : Labelled empty
    and_rest : {t : Tree A} {a : A} {f : Forest A} → LabelledTree t → Labelled f → Labelled (entry t a f)

-- a tree of the stock: a document, or a tree with a label of its own
pub data Stocked {A : Type 0} : Tree A → Type 0 where
  a_document : {f : Forest A} → Labelled f → Stocked (as_document f)
  a_labelled : {t : Tree A} → LabelledTree t → Stocked t

pub record LabelledState {A : Type 0} (s : State A) : Type 0 where
  pub documents : Each Labelled s.slots
  pub stock : Each Stocked s.stock

-- What comes into a call: bytes, a query that was checked, a document with labels.
pub data CheckedCall {A : Type 0} : Call A → Type 0 where
  of_bytes : {n : ℕ} {bytes : List ℕ} {items : List A} {work : ℕ} → Bytes bytes → CheckedCall (load n bytes items work)
  of_query : {n : ℕ} {q : Query} {items : List A} {budget work : ℕ} → Sound 17 [] q → CheckedCall (run n q items budget work)
  of_source : {n : ℕ} {source : Source A} {work : ℕ} → Labelled source.document → CheckedCall (carry n source work)
  of_nothing : CheckedCall clear

-- A use whose calls all have Q leaves states with P after each completed call.
abbrev pub UsesLeaveWith : (K : Semiring) → (Call K.carrier → Type 0) → (State K.carrier → Type 0) → Type 0
UsesLeaveWith K Q P = (m : Limits) (calls : List (Call K.carrier)) → Each Q calls → Each (Leaves P) (use_outcomes K m calls)
