-- m numbers below n that are all different: then m is at most n.
-- Assumes nothing.
use Prim.Native.Nat.{ℕ, zero, suc, ◌<◌, ◌≤◌}
use native.Mathlib.Omega.{arith}
use mathlib.Core.Path.{◌≡◌, refl, sym, ◌∙◌}
use mathlib.Core.Bool.{Bool, true, false, cond}
use lib.Dec.{eqb}
use borrow.Author.Tests.{eqb-true, eqb-false}

-- where f has the highest value, the value at m is taken instead: m numbers below one less
module _ (n m : ℕ) (f : ℕ → ℕ) where
  moved : ℕ → ℕ
  moved i = cond (eqb (f i) n) (f m) (f i)

  module _ (small : (i : ℕ) → i < suc m → f i < suc n) (apart : (i j : ℕ) → i < suc m → j < suc m → f i ≡ f j → i ≡ j) where
    moved_small : (i : ℕ) → i < m → moved i < n
    unfolding moved
    moved_small i p = pick (eqb (f i) n) refl
      where
        pick : (t : Bool) → eqb (f i) n ≡ t → cond t (f m) (f i) < n
        pick true q =
            let a : f i ≡ n = eqb-true _ _ q in
            let b : f m ≡ n → ⊥ = λ g. let k : i ≡ m = apart i m (omega arith) (omega arith) (a ∙ sym g) in omega arith in
            omega (arith, small m (omega arith))
        pick false q = let b : f i ≡ n → ⊥ = eqb-false _ _ q in omega (arith, small i (omega arith))

    moved_apart : (i j : ℕ) → i < m → j < m → moved i ≡ moved j → i ≡ j
    unfolding moved
    moved_apart i j p r = pick (eqb (f i) n) (eqb (f j) n) refl refl
      where
        pick : (s t : Bool) → eqb (f i) n ≡ s → eqb (f j) n ≡ t → cond s (f m) (f i) ≡ cond t (f m) (f j) → i ≡ j
        pick true true a b g = apart i j (omega arith) (omega arith) (eqb-true _ _ a ∙ sym (eqb-true _ _ b))
        pick true false a b g = let k : m ≡ j = apart m j (omega arith) (omega arith) g in absurd (omega arith)
        pick false true a b g = let k : i ≡ m = apart i m (omega arith) (omega arith) g in absurd (omega arith)
        pick false false a b g = apart i j (omega arith) (omega arith) g

pub pigeons : (n m : ℕ) (f : ℕ → ℕ) → ((i : ℕ) → i < m → f i < n) → ((i j : ℕ) → i < m → j < m → f i ≡ f j → i ≡ j) → m ≤ n
pigeons n zero f small apart = omega arith
pigeons zero (suc m) f small apart = absurd (let k = small 0 (omega arith) in omega arith)
pigeons (suc n) (suc m) f small apart =
    let k = pigeons n m (moved n m f) (moved_small n m f small apart) (moved_apart n m f small apart) in
    omega arith
