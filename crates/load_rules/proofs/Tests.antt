-- Laws of `any_below`.
-- Assumes nothing.
use Prim.Native.Nat.{ℕ, zero, suc, ◌+◌, ◌<◌}
use native.Mathlib.Nat.{le_of_suc-le-suc, not-suc-le-zero, eq-or-lt_of_le}
use native.Mathlib.Numerals.{add-one}
use native.Mathlib.Omega.{arith}
use mathlib.Core.Path.{◌≡◌, refl, sym, ap, ◌∙◌}
use mathlib.Core.Bool.{Bool, true, false, ◌||◌, or-true, true≢false}
use mathlib.Core.Logic.{⊎_elim}
use Rattle.std.proofs.lemmas.Bool.Decides.{nat_tests}
use Rattle.load_rules.specs.Rules.{any_below}

-- none below k, and not at k: none below k + 1
pub none_more : (p : ℕ → Bool) (k : ℕ) → any_below p k ≡ false → p k ≡ false → any_below p (k + 1) ≡ false
unfolding any_below
none_more p k h e = rw add-one (rw (h, e))

-- none below n: not at k
pub none_at : (p : ℕ → Bool) (n k : ℕ) → any_below p n ≡ false → k < n → p k ≡ false
unfolding any_below
none_at p zero k h l = absurd (not-suc-le-zero l)
none_at p (suc n) k h l =
    let here : p n ≡ false = grind (arith, nat_tests) in
    let below : any_below p n ≡ false = grind (arith, nat_tests) in
    ⊎_elim
    (λ e. ap p e ∙ here)
    (λ lt. none_at p n k below lt)
    (eq-or-lt_of_le (le_of_suc-le-suc l))

-- not at any below n: none
pub none_of : (p : ℕ → Bool) (n : ℕ) → ((k : ℕ) → k < n → p k ≡ false) → any_below p n ≡ false
unfolding any_below
none_of p zero h = refl
none_of p (suc n) h = rw (none_of p n (λ k l. h k (omega arith)), h n (omega arith))

-- p holds at k: it holds of one below n
pub some_at : (p : ℕ → Bool) (n k : ℕ) → p k ≡ true → k < n → any_below p n ≡ true
unfolding any_below
some_at p zero k h l = absurd (not-suc-le-zero l)
some_at p (suc n) k h l =
    ⊎_elim
    (λ e. ap (λ (j : ℕ). any_below p n || p j) (sym e) ∙ ap (λ (b : Bool). any_below p n || b) h ∙ or-true (any_below p n))
    (λ lt. ap (λ (b : Bool). b || p n) (some_at p n k h lt))
    (eq-or-lt_of_le (le_of_suc-le-suc l))

-- p holds of one below n: here it is
pub found : (p : ℕ → Bool) (n : ℕ) → any_below p n ≡ true → (k : ℕ) × (k < n) × (p k ≡ true)
unfolding any_below
found p zero e = absurd (true≢false (sym e))
found p (suc n) e = go (found p n) (any_below p n) refl e
  where
    go : (any_below p n ≡ true → (k : ℕ) × (k < n) × (p k ≡ true)) → (b : Bool) → any_below p n ≡ b → (b || p n) ≡ true → (k : ℕ) × (k < suc n) × (p k ≡ true)
    go ih true eb e' = let q = ih eb in (q.0, omega (arith, q.1), q.2)
    go ih false eb e' = (n, omega arith, e')
