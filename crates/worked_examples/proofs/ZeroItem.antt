-- The item zero gives nothing, in every lawful kind.
use Rattle.std.proofs.Common.{◌≡◌, ℕ, ◌*◌, true, false, ◌&&◌, ltb, leb, arith}
use Rattle.std.proofs.lemmas.Bool.{and_parts, leb-true, le-leb, le-ltb}
use Rattle.kinds.specs.Semiring.{Semiring, Lawful}
use Rattle.formats.specs.Trees.{tree, empty}
use Rattle.formats.specs.QueryBytes.{query_at}
use Rattle.uxml.specs.Forests.{scale, single}
use Rattle.uxml.proofs.Lawful.{by_test, itself, zero_times}
use Rattle.worked_examples.specs.ZeroItem.{ZeroItemGivesNothing}

module _ {K : Semiring} (K✓ : Lawful K) where
  -- zero times one new tree
  nothing : (l : ℕ) → scale K K.zero (single K (tree l empty)) ≡ empty
  nothing l = by_test (K.same K.one K.zero) (λ e. rw e) (λ e. rw e (rw (zero_times K✓ K.one, itself K✓ K.zero)))

  pub zero_item_gives_nothing_lem : ZeroItemGivesNothing K 3
  unfolding query_at
  zero_item_gives_nothing_lem m budget work sized room enough =
      let a = and_parts (leb 16 m.trees && leb m.trees 1024) (leb 16 m.entries && leb m.entries 8192) sized in
      let many = leb-true 16 m.trees (and_parts (leb 16 m.trees) (leb m.trees 1024) a.0).0 in
      let two : leb 2 m.trees ≡ true = le-leb 2 m.trees (omega arith) in
      let none : leb 0 m.entries ≡ true = le-leb 0 m.entries (omega arith) in
      let lent : ltb work (33 * m.trees) ≡ false = le-ltb work (33 * m.trees) room in
      let paid : leb 3 budget ≡ true = le-leb 3 budget enough in
      rw (sized, lent, paid, nothing 4, two, none)
