-- Proofs that the maps between kinds are homomorphisms; they stand here since an implementation of a map cites them.
use Rattle.std.proofs.Common.{◌≡◌, ℕ, zero, suc, ◌+◌, ◌*◌, ◌≤◌, min, max, ◌&&◌, ltb, leb, sym, refl, ap, ◌∙◌, mul-le-mul, mul-zero, zero-mul, arith}
use Rattle.std.proofs.lemmas.Bool.Decides.{nat_tests}
use Rattle.std.proofs.lemmas.Bool.{lt-ltb, lt-leb, le-leb}
use Rattle.truth_tables.specs.Monotone.{Assignment}
use Rattle.std.proofs.Math.Bool.{and-false}
use Rattle.kinds.specs.Conditions.{conditions}
use Rattle.kinds.specs.Semiring.{Semiring}
use Rattle.kinds.specs.Flags.{flags}
use Rattle.kinds.specs.Upto.{ranks, counts}
use Rattle.kinds.specs.Pairs.{pairs}
use Rattle.maps.specs.Maps.{Homomorphism, Mapping}

above_product : (a b : ℕ) → ltb 0 (a * b) ≡ (ltb 0 a && ltb 0 b)
above_product zero b = ap (ltb 0) (zero-mul b)
above_product (suc a) zero = ap (ltb 0) (mul-zero (suc a)) ∙ sym (and-false (ltb 0 (suc a)))
above_product (suc a) (suc b) = rw (lt-ltb 0 (suc a) (omega arith), lt-ltb 0 (suc b) (omega arith)) (lt-ltb 0 (suc a * suc b) (mul-le-mul {n₁ = 1} {m₁ = 1} (omega arith) (omega arith)))

pub above_held : (n : ℕ) → ltb 0 (min n 1000000) ≡ ltb 0 n
above_held n = grind (arith, nat_tests)

pub present_keeps : Homomorphism (counts 1000000) flags (λ n. ltb 0 n.0)
present_keeps = record {
  keeps_zero = refl;
  keeps_one = refl;
  keeps_plus = λ a b. above_held (a.0 + b.0) ∙ grind (arith, nat_tests);
  keeps_times = λ a b. above_held (a.0 * b.0) ∙ above_product a.0 b.0;
}

pub left_keeps : (R S : Semiring) → Homomorphism (pairs R S) R (λ a. a.0)
left_keeps R S = record { keeps_zero = refl; keeps_one = refl; keeps_plus = λ a b. refl; keeps_times = λ a b. refl }

pub right_keeps : (R S : Semiring) → Homomorphism (pairs R S) S (λ a. a.1)
right_keeps R S = record { keeps_zero = refl; keeps_one = refl; keeps_plus = λ a b. refl; keeps_times = λ a b. refl }

pub chain_keeps : {R S T : Semiring} {f : R.carrier → S.carrier} {g : S.carrier → T.carrier} → Homomorphism R S f → Homomorphism S T g → Homomorphism R T (λ a. g (f a))
chain_keeps {g = g} p q = record {
  keeps_zero = ap g p.keeps_zero ∙ q.keeps_zero;
  keeps_one = ap g p.keeps_one ∙ q.keeps_one;
  keeps_plus = λ a b. ap g (p.keeps_plus a b) ∙ q.keeps_plus _ _;
  keeps_times = λ a b. ap g (p.keeps_times a b) ∙ q.keeps_times _ _;
}

-- the first map, then the second
pub chain_maps : {K M L : Type 0} {R S T : Semiring} {from : K → R.carrier} {mid : M → S.carrier} {to : L → T.carrier} {f : K → M} {g : M → L} → Mapping R S from mid f → Mapping S T mid to g → Mapping R T from to (λ x. g (f x))
chain_maps p q = record { on = λ a. q.on (p.on a); keeps = chain_keeps p.keeps q.keeps; agrees = λ x. q.agrees _ ∙ ap q.on (p.agrees x) }

pub under_keeps : (n : ℕ) (a : Assignment n) → Homomorphism (conditions n) flags (λ f. f.0 a)
under_keeps n a = record { keeps_zero = refl; keeps_one = refl; keeps_plus = λ f g. refl; keeps_times = λ f g. refl }

pub cleared_keeps : (c : ℕ) → 1 ≤ c → c ≤ 4 → Homomorphism (ranks 4) flags (λ n. leb c n.0)
cleared_keeps c low high = record {
  keeps_zero = lt-leb c 0 low;
  keeps_one = le-leb c 4 high;
  keeps_plus = λ a b. let e : min (max a.0 b.0) 4 ≡ max a.0 b.0 = omega arith in ap (leb c) e ∙ grind (arith, nat_tests);
  keeps_times = λ a b. let e : min (min a.0 b.0) 4 ≡ min a.0 b.0 = omega arith in ap (leb c) e ∙ grind (arith, nat_tests);
}
