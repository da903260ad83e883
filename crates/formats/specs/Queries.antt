-- Queries, as they are written; what each gives is the meaning's to say.
use Rattle.std.specs.Prelude.{ℕ}

pub data Query : Type 0 where
  none : Query
  -- the document in a slot
  document : ℕ → Query
  -- a tree variable, and a forest variable
  tree_of : ℕ → Query
  held : ℕ → Query
  both : Query → Query → Query
  -- the annotations times an item
  scaled : ℕ → Query → Query
  -- a new tree with this label, or with the label of a variable
  make : ℕ → Query → Query
  named : ℕ → Query → Query
  child : Query → Query
  below : Query → Query
  -- the trees with a label
  only_of : ℕ → Query → Query
  -- the second query for each tree of the first, or with the first as a forest
  for_each : Query → Query → Query
  let_be : Query → Query → Query
  -- by whether a variable has a label, or two variables the same one
  if_name : ℕ → ℕ → Query → Query → Query
  if_alike : ℕ → ℕ → Query → Query → Query
