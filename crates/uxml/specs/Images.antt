-- Images under a map h of annotations. One function gives the meaning of a load (item numbers become annotations), of a carry
-- (the source's annotations become ours) and of mapping a document to a coarser kind.
use Rattle.std.specs.Prelude.{List, [], ◌∷◌, ◌++◌}
use Rattle.kinds.specs.Semiring.{Semiring}
use Rattle.formats.specs.Trees.{Tree, Forest, tree, empty, entry}
use Rattle.uxml.specs.Forests.{TreeOf, ForestOf, add}

module _ (L : Semiring) {A : Type 0} (h : A → L.carrier) where
  -- The image of a tree keeps the label; trees whose images are equal have the images of their annotations added.
  abbrev mutual
    pub image_tree : Tree A → TreeOf L
    image_tree (tree l f) = tree l (image f)

    pub image : Forest A → ForestOf L
    image empty = empty
    image (entry t a f) = add L (image_tree t) (h a) (image f)

  -- the images of all trees that a forest lists, and of all trees below them, also of those whose annotation becomes zero
  abbrev mutual
    pub images_in : Tree A → List (TreeOf L)
    images_in (tree l f) = image_tree (tree l f) ∷ images f

    pub images : Forest A → List (TreeOf L)
    images empty = []
    images (entry t a f) = images_in t ++ images f
