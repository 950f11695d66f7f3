-- What a search from the front and one from the back tell of the numbers that they passed.
-- Assumes nothing.
use Prim.Native.Nat.{ℕ, zero, suc, ◌+◌, ◌<◌, ◌≤◌}
use native.Mathlib.Nat.{eq-or-lt_of_le, lt_of_not-le}
use native.Mathlib.Omega.{arith}
use mathlib.Core.Path.{◌≡◌, refl, sym, ap, ◌∙◌}
use mathlib.Core.Logic.{⊎_elim}
use mathlib.Core.Bool.{Bool, true, false, cond}
use Rattle.parse.specs.First.{first_from}
use Rattle.std.specs.Prelude.{Option, Some, None}
use Rattle.string_table.specs.Text.{last_below}

module _ (p : ℕ → Bool) where
  -- nothing found from the front: the test fails everywhere
  pub first_nothing : (n i : ℕ) → first_from p n i ≡ None → (j : ℕ) → i ≤ j → j < i + n → p j ≡ false
  unfolding first_from
  first_nothing zero i e j a b = absurd (omega arith)
  first_nothing (suc n) i e j a b = pick (first_nothing n (i + 1)) (p i) refl e
    where
      pick : (first_from p n (i + 1) ≡ None → (j : ℕ) → i + 1 ≤ j → j < i + 1 + n → p j ≡ false)
          → (t : Bool) → p i ≡ t → cond t (Some i) (first_from p n (i + 1)) ≡ None → p j ≡ false
      pick f true q r = cc
      pick f false q r = ⊎_elim (λ s. ap p (sym s) ∙ q) (λ l. f r j (omega arith) (omega arith)) (eq-or-lt_of_le a)

  -- something found from the front: the test holds there and fails before
  pub first_at : (n i e : ℕ) → first_from p n i ≡ Some e → (p e ≡ true) × ((j : ℕ) → i ≤ j → j < e → p j ≡ false)
  unfolding first_from
  first_at zero i e h = cc
  first_at (suc n) i e h = pick (first_at n (i + 1) e) (p i) refl h
    where
      pick : (first_from p n (i + 1) ≡ Some e → (p e ≡ true) × ((j : ℕ) → i + 1 ≤ j → j < e → p j ≡ false))
          → (t : Bool) → p i ≡ t → cond t (Some i) (first_from p n (i + 1)) ≡ Some e → (p e ≡ true) × ((j : ℕ) → i ≤ j → j < e → p j ≡ false)
      pick f true q r = let z : i ≡ e = cc in (ap p (sym z) ∙ q, λ j a b. absurd (omega arith))
      pick f false q r = ((f r).0, λ j a b. ⊎_elim (λ s. ap p (sym s) ∙ q) (λ l. (f r).1 j (omega arith) b) (eq-or-lt_of_le a))

  -- and the other way round
  pub first_is : (n i e : ℕ) → i ≤ e → e < i + n → p e ≡ true → ((j : ℕ) → i ≤ j → j < e → p j ≡ false) → first_from p n i ≡ Some e
  unfolding first_from
  first_is zero i e a b t h = absurd (omega arith)
  first_is (suc n) i e a b t h = ⊎_elim
      (λ s. let q : p i ≡ true = ap p s ∙ t in rw q (ap Some s))
      (λ l. rw (h i (omega arith) l) (first_is n (i + 1) e (omega arith) (omega arith) t (λ j c d. h j (omega arith) d)))
      (eq-or-lt_of_le a)

  -- nothing found from the back
  pub last_nothing : (n : ℕ) → last_below p n ≡ None → (j : ℕ) → j < n → p j ≡ false
  unfolding last_below
  last_nothing zero e j b = absurd (omega arith)
  last_nothing (suc n) e j b = pick (last_nothing n) (p n) refl e
    where
      pick : (last_below p n ≡ None → (j : ℕ) → j < n → p j ≡ false) → (t : Bool) → p n ≡ t → cond t (Some n) (last_below p n) ≡ None → p j ≡ false
      pick f true q r = cc
      pick f false q r = ⊎_elim (λ s. ap p s ∙ q) (λ l. f r j l) (eq-or-lt_of_le {n = j} {m = n} (omega arith))

  -- something found from the back: the test holds there and fails behind
  pub last_at : (n e : ℕ) → last_below p n ≡ Some e → (e < n) × (p e ≡ true) × ((j : ℕ) → e < j → j < n → p j ≡ false)
  unfolding last_below
  last_at zero e h = cc
  last_at (suc n) e h = pick (last_at n e) (p n) refl h
    where
      pick : (last_below p n ≡ Some e → (e < n) × (p e ≡ true) × ((j : ℕ) → e < j → j < n → p j ≡ false)) → (t : Bool) → p n ≡ t → cond t (Some n) (last_below p n) ≡ Some e → (e < suc n) × (p e ≡ true) × ((j : ℕ) → e < j → j < suc n → p j ≡ false)
      pick f true q r = let z : n ≡ e = cc in (omega arith, ap p (sym z) ∙ q, λ j a b. absurd (omega arith))
      pick f false q r =
          let g = f r in
          (omega arith, g.1, λ j a b. ⊎_elim (λ s. ap p s ∙ q) (λ l. g.2 j a l) (eq-or-lt_of_le {n = j} {m = n} (omega arith)))

  -- what a search from the back answers: the last number at which the test holds, or that it holds nowhere
  pub last_is : (n : ℕ) (r : Option ℕ) → ((e : ℕ) → r ≡ Some e → (e < n) × (p e ≡ true) × ((j : ℕ) → e + 1 ≤ j → j < n → p j ≡ false))
      → (r ≡ None → (j : ℕ) → j < n → p j ≡ false) → r ≡ last_below p n
  last_is n (Some e) f g = pick (last_below p n) refl
    where
      pick : (l : Option ℕ) → last_below p n ≡ l → Some e ≡ last_below p n
      pick None q = let k : true ≡ false = sym (f e refl).1 ∙ last_nothing n q e (f e refl).0 in cc
      pick (Some l) q =
          let t = f e refl in
          let u = last_at n l q in
          let a : l < e + 1 = lt_of_not-le (λ h. let k : true ≡ false = sym u.1 ∙ t.2 l h u.0 in cc) in
          let b : e < suc l = lt_of_not-le (λ h. let k : true ≡ false = sym t.1 ∙ u.2 e h t.0 in cc) in
          let k : e ≡ l = omega arith in
          rw (q, k)
  last_is n None f g = pick (last_below p n) refl
    where
      pick : (l : Option ℕ) → last_below p n ≡ l → None ≡ last_below p n
      pick None q = sym q
      pick (Some l) q = let u = last_at n l q in let k : true ≡ false = sym u.1 ∙ g refl l u.0 in cc
