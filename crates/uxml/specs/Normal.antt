-- Normal forests: what documents are. At every level no annotation is zero, and no tree stands twice.
use Rattle.std.specs.Prelude.{◌≡◌, ℕ, false, ◌≢◌}
use Rattle.kinds.specs.Semiring.{Semiring}
use Rattle.formats.specs.Trees.{tree, empty, entry, trees}
use Rattle.uxml.specs.Forests.{TreeOf, ForestOf, known}

mutual
  pub data NormalTree (K : Semiring) : TreeOf K → Type 0 where
    node : {l : ℕ} {f : ForestOf K} → Normal K f → NormalTree K (tree l f)

  -- An entry's annotation is not zero, and its tree is not among those of the rest.
  pub data Normal (K : Semiring) : ForestOf K → Type 0 where
    nil : Normal K empty
    more : {t : TreeOf K} {a : K.carrier} {f : ForestOf K} → a ≢ K.zero → known K t (trees f) ≡ false → NormalTree K t → Normal K f → Normal K (entry t a f)
