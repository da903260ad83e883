-- Folds over a row, and a row joined before a map and after it.
use Rattle.std.proofs.Common.{◌≡◌, ℕ, suc, ◌+◌, ◌%◌, ◌<◌, ◌≤◌, true, false, not, filter, ◌++◌, Bool, cond, List, [], ◌∷◌, Option, map, length, sym, refl, ap, ◌∙◌, ap₂, arith, lt_of_le_of_lt, zero-add}
use denote.Param.Members.{Mut}
use Rattle.std.specs.Fn.{Called}
use Rattle.std.proofs.lemmas.List.{map_push}
use Rattle.std.proofs.lemmas.Fn.{fold_over}
use Rattle.std.proofs.Math.Nat.{mod-add-mod, mod-eq_of_lt}
use Rattle.std.specs.Iterator.{Drains, AlwaysYields}
use Rattle.std.specs.List.{FoldsTo}
use Rattle.kinds.specs.Semiring.{Semiring}
use Rattle.rows.specs.declared.coarsening.BothWays.{BothWays}
use Rattle.rows.specs.Rows.{folded, nonzero}
use Rattle.rows.specs.Coarsenings.{JoinsBothWays}

module _ {X A : Type 0} (means : X → A) (op : A → A → A) (e : A) (assoc : (a b c : A) → op (op a b) c ≡ op a (op b c)) (comm : (a b : A) → op a b ≡ op b a) where
  joined_push : (bs : List A) (a : A) → op (folded op e bs) a ≡ folded op e (bs ++ (a ∷ []))
  joined_push [] a = comm e a
  joined_push (b ∷ bs) a = assoc b (folded op e bs) a ∙ ap (op b) (joined_push bs a)

  -- with one more element joined, a join of the first elements is again the join of the first elements
  fold_push : (xs : List X) (x : X) (s t : A) → s ≡ folded op e (map means xs) → t ≡ op s (means x) → t ≡ folded op e (map means (xs ++ (x ∷ [])))
  fold_push xs x s t h next = next ∙ ap (λ a. op a (means x)) h ∙ joined_push (map means xs) (means x) ∙ ap (folded op e) (sym (map_push means xs x))

  -- so a run of a closure that joins its state and one item gives the join of all items
  pub fold_joins : {S I F : Type 0} (steps : S → Option I → S → Type 0) (v : I → X) (g : Mut F (X × (I × Unit {0})) X) (f : F)
      → ((s : X) (x : I) (t : X) (f' : F) → Called g f (s, (x, tt)) t f' → (means t ≡ op (means s) (means (v x))) × (f' ≡ f))
      → (i : S) (all : List X) (a r : X) → AlwaysYields steps v i all → means a ≡ e
      → (xs : List I) × (f' : F) × Drains steps i xs × FoldsTo {P = F × X} (λ p x q. Called g p.0 (p.1, (x, tt)) q.1 q.0) (f, a) xs (f', r)
      → means r ≡ folded op e (map means all)
  fold_joins steps v g f step i all a r =
      fold_over steps v g (λ xs s. means s ≡ folded op e (map means xs)) f
      (λ xs s x t f' joined call. let u = step s x t f' call in (fold_push xs (v x) (means s) (means t) joined u.0, u.1)) i all a r

-- one element more is counted unless it is the same as zero
counted : {X : Type 0} (same : Bool) (x : X) (xs : List X) (n : ℕ) → length xs ≡ n → length (cond (not same) (x ∷ xs) xs) ≡ cond same n (1 + n)
counted true x xs n e = e
counted false x xs n e = omega (arith, e)

-- the elements that are not the same as zero are the nonzero ones
pub nonzero_counted : {X : Type 0} (R : Semiring) (means : X → R.carrier) (xs : List X)
    → length (filter (λ x. not (R.same (means x) R.zero)) xs) ≡ nonzero R (map means xs)
nonzero_counted R means [] = refl
nonzero_counted R means (x ∷ xs) = counted (R.same (means x) R.zero) x _ _ (nonzero_counted R means xs)

module _ {X : Type 0} (R : Semiring) (means : X → R.carrier) where
  -- one more element counts one unless it is the same as zero
  abbrev one_more : X → ℕ
  one_more x = cond (R.same (means x) R.zero) 0 1

  -- how many are not zero, by the elements
  abbrev tally : List X → ℕ
  tally xs = nonzero R (map means xs)

  further : (b : Bool) (m n d : ℕ) → m ≡ n + d → cond b m (1 + m) ≡ cond b n (1 + n) + d
  further true m n d e = e
  further false m n d e = omega (arith, e)

  tally_push : (xs : List X) (x : X) → tally (xs ++ (x ∷ [])) ≡ tally xs + one_more x
  tally_push [] x = sym (zero-add _)
  tally_push (y ∷ ys) x = further (R.same (means y) R.zero) _ _ _ (tally_push ys x)

  tally_le : (xs : List X) → tally xs ≤ length xs
  tally_le [] = omega arith
  tally_le (x ∷ xs) = below (R.same (means x) R.zero) (tally_le xs)
    where
      below : {m n : ℕ} (b : Bool) → m ≤ n → cond b m (1 + m) ≤ suc n
      below true h = omega (arith, h)
      below false h = omega (arith, h)

  -- a run of a closure that adds one, modulo M, for each element that is not zero counts those of all items, where M is more than these
  pub fold_counts : {S I F : Type 0} (M : ℕ) (steps : S → Option I → S → Type 0) (v : I → X) (g : Mut F (ℕ × (I × Unit {0})) ℕ) (f : F)
      → ((s : ℕ) (x : I) (t : ℕ) (f' : F) → Called g f (s, (x, tt)) t f' → (t ≡ (s + one_more (v x)) % M) × (f' ≡ f))
      → (i : S) (all : List X) (r : ℕ) → length all < M → AlwaysYields steps v i all
      → (xs : List I) × (f' : F) × Drains steps i xs × FoldsTo {P = F × ℕ} (λ p x q. Called g p.0 (p.1, (x, tt)) q.1 q.0) (f, 0) xs (f', r)
      → r ≡ tally all
  fold_counts M steps v g f step i all r few yields ran =
      fold_over steps v g (λ xs s. s ≡ tally xs % M) f
      (λ xs s x t f' sofar call.
      let u = step s x t f' call in
      (u.0 ∙ ap (λ n. (n + one_more (v x)) % M) sofar ∙ mod-add-mod (tally xs) M (one_more (v x)) ∙ ap (λ n. n % M) (sym (tally_push xs (v x))), u.1))
      i all 0 r yields (sym (mod-eq_of_lt (omega (arith, few)))) ran
      ∙ mod-eq_of_lt (lt_of_le_of_lt (tally_le all) few)

-- What keeps an operation and its unit keeps every fold of a row: f joins and then maps, image maps and then joins.
pub keeps_fold : {K L A B : Type 0} (from : K → A) (to : L → B) (image : K → L) (f : A → B) (op : A → A → A) (unit : A) (op' : B → B → B) (unit' : B)
    → ((x : K) → to (image x) ≡ f (from x)) → f unit ≡ unit' → ((a b : A) → f (op a b) ≡ op' (f a) (f b))
    → (xs : List K) → f (folded op unit (map from xs)) ≡ folded op' unit' (map to (map image xs))
keeps_fold from to image f op unit op' unit' agrees at_unit at_op [] = at_unit
keeps_fold from to image f op unit op' unit' agrees at_unit at_op (x ∷ xs) =
    at_op (from x) (folded op unit (map from xs)) ∙ ap₂ op' (sym (agrees x)) (keeps_fold from to image f op unit op' unit' agrees at_unit at_op xs)

-- So a join of a row, its image and the join of the images are what they should be.
pub joins_both_ways : {K L A B : Type 0} (from : K → A) (to : L → B) (image : K → L) (f : A → B) (op : A → A → A) (unit : A) (op' : B → B → B) (unit' : B)
    → ((x : K) → to (image x) ≡ f (from x)) → f unit ≡ unit' → ((a b : A) → f (op a b) ≡ op' (f a) (f b))
    → (row : List K) (images : List L) (j : K) (o : L) (w : BothWays K L)
    → images ≡ map image row → from j ≡ folded op unit (map from row) → to o ≡ folded op' unit' (map to images)
    → w ≡ record { join = j; mapped = image j; of_images = o }
    → JoinsBothWays from to image (folded op unit) (folded op' unit') row w
joins_both_ways from to image f op unit op' unit' agrees at_unit at_op row images j o w mapped whole of_images e =
    let joined = ap (λ v. from v.join) e ∙ whole in
    let last = ap (λ v. to v.of_images) e ∙ of_images ∙ ap (λ xs. folded op' unit' (map to xs)) mapped in
    record {
      joined = joined;
      mapped = ap (λ v. v.mapped) e ∙ ap (λ v. image v.join) (sym e);
      of_images = last;
      agree = ap (λ v. to v.mapped) e ∙ agrees j ∙ ap f whole ∙ keeps_fold from to image f op unit op' unit' agrees at_unit at_op row ∙ sym last;
    }
