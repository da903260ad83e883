-- Joining the numbers below a bound that pass a test, one number more at a time.
use Rattle.std.proofs.Common.{◌≡◌, ℕ, zero, suc, ◌+◌, Bool, true, false, cond, List, [], ◌∷◌, ◌++◌, sym, refl, ap, ◌∙◌, append_assoc, append-nil, zero-add, add-zero, add-one, suc-add, add_assoc}
use Rattle.std.specs.List.{filter, join_by, flat_map, range_with_len}
use Rattle.std.proofs.lemmas.List.Elements.{filter-append}

-- the numbers below n that pass
abbrev pub passing : (ℕ → Bool) → ℕ → List ℕ
passing p n = filter p (range_with_len 0 n)

-- what stands before the next one: nothing, or the separator after another one
abbrev pub before_next : List ℕ → List ℕ → List ℕ
before_next sep [] = []
before_next sep (x ∷ xs) = sep

range_more : (a n : ℕ) → range_with_len a (suc n) ≡ range_with_len a n ++ ((a + n) ∷ [])
range_more a zero = ap (λ k. k ∷ []) (sym (add-zero a))
range_more a (suc n) = ap (λ xs. a ∷ xs) (range_more (a + 1) n ∙ ap (λ k. range_with_len (a + 1) n ++ (k ∷ [])) (add_assoc a 1 n ∙ ap (λ k. a + k) (suc-add 0 n ∙ ap suc (zero-add n))))

passing_more : (p : ℕ → Bool) (n : ℕ) → passing p (suc n) ≡ passing p n ++ cond (p n) (n ∷ []) []
passing_more p n = ap (filter p) (range_more 0 n ∙ ap (λ k. range_with_len 0 n ++ (k ∷ [])) (zero-add n)) ∙ filter-append p (range_with_len 0 n) (n ∷ [])

pub passing_yes : (p : ℕ → Bool) (n : ℕ) → p n ≡ true → passing p (n + 1) ≡ passing p n ++ (n ∷ [])
passing_yes p n e = ap (passing p) (add-one n) ∙ passing_more p n ∙ ap (λ b. passing p n ++ cond b (n ∷ []) []) e

pub passing_no : (p : ℕ → Bool) (n : ℕ) → p n ≡ false → passing p (n + 1) ≡ passing p n
passing_no p n e = ap (passing p) (add-one n) ∙ passing_more p n ∙ ap (λ b. passing p n ++ cond b (n ∷ []) []) e ∙ append-nil (passing p n)

pub join_more : (f : ℕ → List ℕ) (sep xs : List ℕ) (n : ℕ) → join_by f sep (xs ++ (n ∷ [])) ≡ join_by f sep xs ++ (before_next sep xs ++ f n)
join_more f sep [] n = append-nil (f n)
join_more f sep (x ∷ xs) n = ap (λ t. f x ++ t) (rest xs) ∙ sym (append_assoc (f x) (flat_map (λ y. sep ++ f y) xs) (sep ++ f n))
  where
    rest : (ys : List ℕ) → flat_map (λ y. sep ++ f y) (ys ++ (n ∷ [])) ≡ flat_map (λ y. sep ++ f y) ys ++ (sep ++ f n)
    rest [] = append-nil (sep ++ f n)
    rest (y ∷ ys) = ap (λ t. (sep ++ f y) ++ t) (rest ys) ∙ sym (append_assoc (sep ++ f y) (flat_map (λ z. sep ++ f z) ys) (sep ++ f n))

pub before_more : (sep xs : List ℕ) (n : ℕ) → before_next sep (xs ++ (n ∷ [])) ≡ sep
before_more sep [] n = refl
before_more sep (x ∷ xs) n = refl

-- one number more, where it passes
pub joined_yes : (p : ℕ → Bool) (f : ℕ → List ℕ) (sep s : List ℕ) (n : ℕ) → p n ≡ true → s ≡ before_next sep (passing p n) → join_by f sep (passing p n) ++ (s ++ f n) ≡ join_by f sep (passing p (n + 1))
joined_yes p f sep s n t e =
    ap (λ r. join_by f sep (passing p n) ++ (r ++ f n)) e ∙ sym (ap (join_by f sep) (passing_yes p n t) ∙ join_more f sep (passing p n) n)

pub separator_yes : (p : ℕ → Bool) (sep : List ℕ) (n : ℕ) → p n ≡ true → sep ≡ before_next sep (passing p (n + 1))
separator_yes p sep n t = sym (ap (before_next sep) (passing_yes p n t) ∙ before_more sep (passing p n) n)
