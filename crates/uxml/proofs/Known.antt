-- Whether a list has a tree that is the same; members of lists and of forests.
use Rattle.std.proofs.Common.{◌≡◌, ℕ, zero, suc, true, List, [], ◌∷◌, ◌++◌, get_or, set, sym, refl, subst, inl, inr}
use mathlib.Core.Bool.{false≢true}
use mathlib.Core.List.Memᴰ
use mathlib.Core.List.Memᴰ.{head as first}
use mathlib.Core.List.Memᴰ.{tail as later}
use mathlib.Core.List.{Memᴰ as On}
use Rattle.std.proofs.lemmas.Bool.{or_cases, or_left, or_right}
use Rattle.kinds.specs.Semiring.{Semiring}
use Rattle.formats.specs.Trees.{Tree, Forest, empty, entry, trees, In, here, there}
use Rattle.uxml.specs.Forests.{TreeOf as T, same_tree, known}
use Rattle.uxml.specs.Equality.{Same, Each, no_more, and_each}

module _ {K : Semiring} where
  pub known_find : (t : T K) (ts : List (T K)) → known K t ts ≡ true → (u : T K) × On u ts × Same K t u
  known_find t [] e = absurd (false≢true e)
  known_find t (u ∷ ts) e = elim (or_cases (same_tree K t u) (known K t ts) e) [
    | inl d ↦ (u, first refl, record { is = d })
    | inr d ↦ (let x = known_find t ts d in (x.0, later x.1, x.2))
  ]

  pub known_from : {t u : T K} {ts : List (T K)} → On u ts → Same K t u → known K t ts ≡ true
  known_from (first e) d = or_left _ _ (rw e at d.is)
  known_from (later i) d = or_right _ _ (known_from i d)

-- what holds of each member of a list, by its members
pub each_from : {X : Type 0} {P : X → Type 0} (xs : List X) → ((x : X) → On x xs → P x) → Each P xs
each_from [] h = no_more
each_from (x ∷ xs) h = and_each (h x (first refl)) (each_from xs (λ y i. h y (later i)))

-- what holds of each element holds at each place, if it holds of the default
pub each_at : {X : Type 0} (P : X → Type 0) {d : X} → P d → {xs : List X} → Each P xs → (n : ℕ) → P (get_or xs n d)
each_at P p no_more n = p
each_at P p (and_each q e) zero = q
each_at P p (and_each q e) (suc n) = each_at P p e n

pub each_set : {X : Type 0} {P : X → Type 0} {xs : List X} {x : X} → Each P xs → P x → (n : ℕ) → Each P (set xs n x)
each_set no_more p n = no_more
each_set (and_each q e) p zero = and_each p e
each_set (and_each q e) p (suc n) = and_each q (each_set e p n)

pub each_map : {X : Type 0} {P Q : X → Type 0} → ((x : X) → P x → Q x) → {xs : List X} → Each P xs → Each Q xs
each_map c no_more = no_more
each_map c (and_each p e) = and_each (c _ p) (each_map c e)

pub each_append : {X : Type 0} {P : X → Type 0} {xs ys : List X} → Each P xs → Each P ys → Each P (xs ++ ys)
each_append no_more f = f
each_append (and_each p e) f = and_each p (each_append e f)

-- the trees that a forest lists, and their entries
pub trees_in : {A : Type 0} {t : Tree A} (f : Forest A) → On t (trees f) → (a : A) × In t a f
trees_in empty i = elim i [ ]
trees_in {t} (entry u a f) i = elim (Memᴰ.cases_cons i) [
  | inl e ↦ (a, subst (λ w. In w a (entry u a f)) (sym e) here)
  | inr j ↦ (let z = trees_in f j in (z.0, there z.1))
]

pub in_trees : {A : Type 0} {t : Tree A} {a : A} {f : Forest A} → In t a f → On t (trees f)
in_trees here = first refl
in_trees (there i) = later (in_trees i)
