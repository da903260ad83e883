-- The SCALE commands of a query stand where they are listed, from left to right.
use Rattle.std.proofs.Common.{◌≡◌, ℕ, ◌+◌, ◌≤◌, List, [], ◌∷◌, ◌++◌, length, drop, sym, refl, subst, inl, inr, arith}
use mathlib.Core.List.Memᴰ
use mathlib.Core.List.{Memᴰ as On}
use Rattle.formats.specs.Queries.{Query, none, document, tree_of, held, both, scaled, make, named, child, below, only_of, for_each, let_be, if_name, if_alike}
use Rattle.formats.specs.Items.{size, Scaling, scalings}
use Rattle.formats.specs.Writing.{two_bytes, write, write_query}
use Rattle.formats.specs.Laws.{StandsThere, Ascend, ListsScalings}
use Rattle.formats.proofs.ReadBack.{next, two}

module _ (bytes : List ℕ) where
  -- past one byte, and past a command with two, three or four bytes
  one_on : (at x : ℕ) (xs : List ℕ) → drop at bytes ≡ x ∷ xs → drop (at + 1) bytes ≡ xs
  one_on at x xs d = (next bytes at x xs d).rest

  further : (at i j : ℕ) {xs : List ℕ} → drop (at + i + j) bytes ≡ xs → drop (at + (i + j)) bytes ≡ xs
  further at i j {xs} d = let e : at + i + j ≡ at + (i + j) = omega arith in subst (λ n. drop n bytes ≡ xs) e d

  two_on : (at x y : ℕ) (xs : List ℕ) → drop at bytes ≡ x ∷ y ∷ xs → drop (at + 2) bytes ≡ xs
  two_on at x y xs d = further at 1 1 (one_on (at + 1) y xs (one_on at x (y ∷ xs) d))

  word_on : (at x n : ℕ) (xs : List ℕ) → drop at bytes ≡ x ∷ two_bytes n xs → drop (at + 3) bytes ≡ xs
  word_on at x n xs d = further at 1 2 (two bytes (at + 1) n xs (one_on at x (two_bytes n xs) d)).2

  three_on : (at x y z : ℕ) (xs : List ℕ) → drop at bytes ≡ x ∷ y ∷ z ∷ xs → drop (at + 3) bytes ≡ xs
  three_on at x y z xs d = further at 1 2 (two_on (at + 1) y z xs (one_on at x (y ∷ z ∷ xs) d))

  four_on : (at x y n : ℕ) (xs : List ℕ) → drop at bytes ≡ x ∷ y ∷ two_bytes n xs → drop (at + 4) bytes ≡ xs
  four_on at x y n xs d = further at 1 3 (word_on (at + 1) y n xs (one_on at x (y ∷ two_bytes n xs) d))

  -- what it is for a query to end where its size says
  abbrev Ends : Query → Type 0
  Ends q = (at : ℕ) (rest : List ℕ) → drop at bytes ≡ write q rest → drop (at + size q) bytes ≡ rest

  -- two queries after a command of k bytes
  second : (at k : ℕ) (e : Query) (xs : List ℕ) → Ends e → drop (at + k) bytes ≡ write e xs → drop (at + (k + size e)) bytes ≡ xs
  second at k e xs h d = further at k (size e) (h (at + k) xs d)

  past_two : (at k : ℕ) (e f : Query) (rest : List ℕ) → drop (at + k) bytes ≡ write e (write f rest) → Ends e → Ends f → drop (at + (k + size e + size f)) bytes ≡ rest
  past_two at k e f rest d h i = further at (k + size e) (size f) (i (at + (k + size e)) rest (second at k e (write f rest) h d))

  -- a query ends where its size says
  ends : (q : Query) → Ends q
  ends none at rest d = one_on at 0x20 rest d
  ends (document s) at rest d = two_on at 0x21 s rest d
  ends (tree_of v) at rest d = two_on at 0x22 v rest d
  ends (held v) at rest d = two_on at 0x23 v rest d
  ends (both e f) at rest d = past_two at 1 e f rest (one_on at 0x24 (write e (write f rest)) d) (ends e) (ends f)
  ends (scaled i e) at rest d = further at 3 (size e) (ends e (at + 3) rest (word_on at 0x25 i (write e rest) d))
  ends (make l e) at rest d = further at 3 (size e) (ends e (at + 3) rest (word_on at 0x26 l (write e rest) d))
  ends (named v e) at rest d = further at 2 (size e) (ends e (at + 2) rest (two_on at 0x27 v (write e rest) d))
  ends (child e) at rest d = further at 1 (size e) (ends e (at + 1) rest (one_on at 0x28 (write e rest) d))
  ends (below e) at rest d = further at 1 (size e) (ends e (at + 1) rest (one_on at 0x29 (write e rest) d))
  ends (only_of l e) at rest d = further at 3 (size e) (ends e (at + 3) rest (word_on at 0x2A l (write e rest) d))
  ends (for_each e f) at rest d = past_two at 1 e f rest (one_on at 0x2B (write e (write f rest)) d) (ends e) (ends f)
  ends (let_be e f) at rest d = past_two at 1 e f rest (one_on at 0x2C (write e (write f rest)) d) (ends e) (ends f)
  ends (if_name v l e f) at rest d = past_two at 4 e f rest (four_on at 0x2D v l (write e (write f rest)) d) (ends e) (ends f)
  ends (if_alike v w e f) at rest d = past_two at 3 e f rest (three_on at 0x2E v w (write e (write f rest)) d) (ends e) (ends f)

  -- all SCALE commands of a query stand where they are listed
  abbrev AllStand : Query → Type 0
  AllStand q = (at : ℕ) (rest : List ℕ) → drop at bytes ≡ write q rest → (s : Scaling) → On s (scalings at q) → StandsThere bytes s

  both_stand : (at k : ℕ) (e f : Query) (rest : List ℕ) → AllStand e → AllStand f → drop (at + k) bytes ≡ write e (write f rest)
      → (s : Scaling) → On s (scalings (at + k) e ++ scalings (at + (k + size e)) f) → StandsThere bytes s
  both_stand at k e f rest h i d s j = elim (Memᴰ.append_cases (scalings (at + k) e) j) [
    | inl m ↦ h (at + k) (write f rest) d s m
    | inr m ↦ i (at + (k + size e)) rest (second at k e (write f rest) (ends e) d) s m
  ]

  all_stand : (q : Query) → AllStand q
  all_stand none at rest d s j = elim j [ ]
  all_stand (document n) at rest d s j = elim j [ ]
  all_stand (tree_of v) at rest d s j = elim j [ ]
  all_stand (held v) at rest d s j = elim j [ ]
  all_stand (both e f) at rest d s j = both_stand at 1 e f rest (all_stand e) (all_stand f) (one_on at 0x24 (write e (write f rest)) d) s j
  all_stand (scaled i e) at rest d s j = elim (Memᴰ.cases_cons j) [
    | inl m ↦ (let a = next bytes at 0x25 (two_bytes i (write e rest)) d in
        subst (StandsThere bytes) (sym m) (record { command = a.here; operand = (two bytes (at + 1) i (write e rest) a.rest).0 }))
    | inr m ↦ all_stand e (at + 3) rest (word_on at 0x25 i (write e rest) d) s m
  ]
  all_stand (make l e) at rest d s j = all_stand e (at + 3) rest (word_on at 0x26 l (write e rest) d) s j
  all_stand (named v e) at rest d s j = all_stand e (at + 2) rest (two_on at 0x27 v (write e rest) d) s j
  all_stand (child e) at rest d s j = all_stand e (at + 1) rest (one_on at 0x28 (write e rest) d) s j
  all_stand (below e) at rest d s j = all_stand e (at + 1) rest (one_on at 0x29 (write e rest) d) s j
  all_stand (only_of l e) at rest d s j = all_stand e (at + 3) rest (word_on at 0x2A l (write e rest) d) s j
  all_stand (for_each e f) at rest d s j = both_stand at 1 e f rest (all_stand e) (all_stand f) (one_on at 0x2B (write e (write f rest)) d) s j
  all_stand (let_be e f) at rest d s j = both_stand at 1 e f rest (all_stand e) (all_stand f) (one_on at 0x2C (write e (write f rest)) d) s j
  all_stand (if_name v l e f) at rest d s j = both_stand at 4 e f rest (all_stand e) (all_stand f) (four_on at 0x2D v l (write e (write f rest)) d) s j
  all_stand (if_alike v w e f) at rest d s j = both_stand at 3 e f rest (all_stand e) (all_stand f) (three_on at 0x2E v w (write e (write f rest)) d) s j

-- lists that ascend, one after the other
sooner : (from later to : ℕ) (ss : List Scaling) → from ≤ later → Ascend later to ss → Ascend from to ss
sooner from later to [] h a = omega arith
sooner from later to (s ∷ rest) h a = (omega (arith, a.0), a.1)

join : (from mid to : ℕ) (ss ts : List Scaling) → Ascend from mid ss → Ascend mid to ts → Ascend from to (ss ++ ts)
join from mid to [] ts a b = sooner from mid to ts a b
join from mid to (s ∷ rest) ts a b = (a.0, join (s.place + 1) mid to rest ts a.1 b)

-- the commands of queries that stand after k bytes
abbrev Ascends : Query → Type 0
Ascends q = (at : ℕ) → Ascend at (at + size q) (scalings at q)

after_one : (at k : ℕ) (e : Query) → Ascends e → Ascend at (at + (k + size e)) (scalings (at + k) e)
after_one at k e h =
    let d : at + k + size e ≡ at + (k + size e) = omega arith in
    sooner at (at + k) (at + (k + size e)) (scalings (at + k) e) (omega arith) (subst (λ n. Ascend (at + k) n (scalings (at + k) e)) d (h (at + k)))

after_two : (at k : ℕ) (e f : Query) → Ascends e → Ascends f → Ascend at (at + (k + size e + size f)) (scalings (at + k) e ++ scalings (at + (k + size e)) f)
after_two at k e f h i =
    let d : at + (k + size e) + size f ≡ at + (k + size e + size f) = omega arith in
    join at (at + (k + size e)) (at + (k + size e + size f)) (scalings (at + k) e) (scalings (at + (k + size e)) f) (after_one at k e h)
    (subst (λ n. Ascend (at + (k + size e)) n (scalings (at + (k + size e)) f)) d (i (at + (k + size e))))

ascends : (q : Query) → Ascends q
ascends none at = omega arith
ascends (document s) at = omega arith
ascends (tree_of v) at = omega arith
ascends (held v) at = omega arith
ascends (both e f) at = after_two at 1 e f (ascends e) (ascends f)
ascends (scaled i e) at =
    let d : at + 3 + size e ≡ at + (3 + size e) = omega arith in
    (omega arith, sooner (at + 1) (at + 3) (at + (3 + size e)) (scalings (at + 3) e) (omega arith) (subst (λ n. Ascend (at + 3) n (scalings (at + 3) e)) d (ascends e (at + 3))))
ascends (make l e) at = after_one at 3 e (ascends e)
ascends (named v e) at = after_one at 2 e (ascends e)
ascends (child e) at = after_one at 1 e (ascends e)
ascends (below e) at = after_one at 1 e (ascends e)
ascends (only_of l e) at = after_one at 3 e (ascends e)
ascends (for_each e f) at = after_two at 1 e f (ascends e) (ascends f)
ascends (let_be e f) at = after_two at 1 e f (ascends e) (ascends f)
ascends (if_name v l e f) at = after_two at 4 e f (ascends e) (ascends f)
ascends (if_alike v w e f) at = after_two at 3 e f (ascends e) (ascends f)

-- a query's size is the number of its bytes
size_after : (q : Query) (rest : List ℕ) → length (write q rest) ≡ size q + length rest
size_after none rest = omega arith
size_after (document s) rest = omega arith
size_after (tree_of v) rest = omega arith
size_after (held v) rest = omega arith
size_after (both e f) rest = omega (arith, size_after e (write f rest), size_after f rest)
size_after (scaled i e) rest = omega (arith, size_after e rest)
size_after (make l e) rest = omega (arith, size_after e rest)
size_after (named v e) rest = omega (arith, size_after e rest)
size_after (child e) rest = omega (arith, size_after e rest)
size_after (below e) rest = omega (arith, size_after e rest)
size_after (only_of l e) rest = omega (arith, size_after e rest)
size_after (for_each e f) rest = omega (arith, size_after e (write f rest), size_after f rest)
size_after (let_be e f) rest = omega (arith, size_after e (write f rest), size_after f rest)
size_after (if_name v l e f) rest = omega (arith, size_after e (write f rest), size_after f rest)
size_after (if_alike v w e f) rest = omega (arith, size_after e (write f rest), size_after f rest)

pub lists_scalings : (q : Query) → ListsScalings (scalings 0) q
lists_scalings q =
    let e : 0 + size q ≡ length (write_query q) = omega (arith, size_after q []) in
    record {
      stand = λ s j. all_stand (write_query q) q 0 [] refl s j;
      ascend = subst (λ n. Ascend 0 n (scalings 0 q)) e (ascends q 0);
    }
