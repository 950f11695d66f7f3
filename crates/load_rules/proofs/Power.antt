-- A number below 2^64 is a power of two where it has one bit.
-- Assumes nothing.
use Prim.Native.Nat.{ℕ, zero, suc, ◌+◌, ◌*◌, ◌/◌, ◌%◌, ◌^◌, ◌<◌}
use native.Mathlib.Nat.{pow-suc}
use native.Mathlib.Omega.{arith}
use mathlib.Core.Path.{◌≡◌, refl, sym, ap, ◌∙◌}
use mathlib.Core.Bool.{Bool, true, false, true≢false}
use lib.Dec.{eqb}
use lib.Count.{ones, ones_in, ones_step, ones_cat}
use lib.Pow.{pow_pos}
use borrow.Author.Tests.{eq-eqb, ne_eqb, eqb-true, eqb-false}
use Rattle.std.proofs.lemmas.Nat.{zero_from_ones}
use Rattle.load_rules.specs.Rules.{any_below, power2}
use Rattle.load_rules.proofs.Tests.{some_at, found}

pub ones_of : (k : ℕ) → ones (2 ^ k) ≡ 1
unfolding ones
ones_of k = let e : 1 * 2 ^ k + 0 ≡ 2 ^ k = omega arith in ap ones (sym e) ∙ ones_cat k 1 0 (pow_pos k)

pub one_of : (n a : ℕ) → a < 2 ^ n → ones a ≡ 1 → (k : ℕ) × (k < n) × (a ≡ 2 ^ k)
unfolding ones ones_in
one_of zero a h e =
    let z : a ≡ 0 = omega arith in
    let q : ◌≡◌ {A = ℕ} 0 1 = ap ones (sym z) ∙ e in
    absurd (omega arith)
one_of (suc n) a h e = pick (one_of n (a / 2)) (eqb (a % 2) 0) refl
  where
    half : a / 2 < 2 ^ n
    half = let h' : a < 2 ^ n * 2 = rw pow-suc at h in omega arith

    pick : (a / 2 < 2 ^ n → ones (a / 2) ≡ 1 → (k : ℕ) × (k < n) × (a / 2 ≡ 2 ^ k)) → (b : Bool) → eqb (a % 2) 0 ≡ b → (k : ℕ) × (k < suc n) × (a ≡ 2 ^ k)
    pick ih true q =
        let z = eqb-true (a % 2) 0 q in
        let r = ih half (omega (arith, ones_step a)) in
        (suc r.0, omega (arith, r.1), omega (arith, r.2, pow-suc 2 r.0))
    pick ih false q =
        let z = eqb-false (a % 2) 0 q in
        let y : a % 2 ≡ 1 = omega arith in
        let r = zero_from_ones (a / 2) (omega (arith, ones_step a)) in
        (0, omega arith, omega arith)

pub one_bit : (a : ℕ) → a < 2 ^ 64 → eqb (ones a) 1 ≡ power2 a
unfolding power2
one_bit a h = pick (λ k. eqb a (2 ^ k)) (λ k. refl) (any_below (λ k. eqb a (2 ^ k)) 64) refl
  where
    pick : (p : ℕ → Bool) → ((k : ℕ) → p k ≡ eqb a (2 ^ k)) → (b : Bool) → any_below p 64 ≡ b → eqb (ones a) 1 ≡ any_below p 64
    pick p s true e =
        let q = found p 64 e in
        let r : a ≡ 2 ^ q.0 = eqb-true a (2 ^ q.0) (sym (s q.0) ∙ q.2) in
        eq-eqb (ones a) 1 (ap ones r ∙ ones_of q.0) ∙ sym e
    pick p s false e =
        ne_eqb (ones a) 1
        (λ o. let q = one_of 64 a h o in true≢false (sym (some_at p 64 q.0 (s q.0 ∙ eq-eqb a (2 ^ q.0) q.2) q.1) ∙ e))
        ∙ sym e
