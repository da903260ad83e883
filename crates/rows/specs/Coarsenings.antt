-- A row joined before a map and after it.
use Rattle.std.specs.Prelude.{◌≡◌, List, map}
use Rattle.rows.specs.declared.coarsening.BothWays.{BothWays}

-- The join w.join of a row, its image, and the join of the images; the last two stand for one annotation.
pub record JoinsBothWays {K L A B : Type 0} (from : K → A) (to : L → B) (image : K → L) (join : List A → A) (join_images : List B → B) (row : List K)
    (w : BothWays K L) : Type 0 where
  pub joined : from w.join ≡ join (map from row)
  pub mapped : w.mapped ≡ image w.join
  pub of_images : to w.of_images ≡ join_images (map to (map image row))
  pub agree : to w.mapped ≡ to w.of_images
