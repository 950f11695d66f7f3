-- The laws of `entry_fault`, `count_of` and `first_from`, and of products that are tested before they are made.
-- Assumes nothing.
use Prim.Native.Nat.{ℕ, zero, suc, ◌+◌, ◌*◌, ◌-◌, ◌/◌, ◌^◌, ◌<◌, ◌≤◌}
use native.Mathlib.Nat.{le-div_iff_mul-le, suc-mul}
use native.Mathlib.Omega.{arith}
use mathlib.Core.Path.{◌≡◌, refl}
use mathlib.Core.Bool.{Bool, true, false, cond}
use borrow.Author.Tests.{le-leb, lt-leb, le-ltb, ne_eqb}
use Rattle.std.specs.Prelude.{Some, None, Ok}
use Rattle.endian.specs.Range.{range_fault}
use Rattle.std.proofs.lemmas.Bool.Decides.{nat_tests}
use Rattle.parse.specs.Entry.{entry_fault, count_of, range_at}
use Rattle.parse.specs.declared.Range.{Range}
use Rattle.parse.specs.First.{first_from}

-- an entry without a fault lies in the table
pub whole : (size len i : ℕ) → entry_fault size len i ≡ Ok tt → i * size + size ≤ len
unfolding entry_fault
whole size len i e = grind (arith, nat_tests)

-- an entry below the count of whole entries lies in the table
pub inside : (size len i : ℕ) → 0 < size → i < len / size → i * size + size ≤ len
inside size len i p h = let k : suc i * size ≤ len = (le-div_iff_mul-le {k = size} {x = suc i} {y = len} p).0 h in rw suc-mul at k

-- and the other way round: a walk visits every entry that can be read, and stops at the first that can't
pub readable : (size len i : ℕ) → 0 < size → len < 2 ^ 64 → i < count_of size len → entry_fault size len i ≡ Ok tt
unfolding entry_fault count_of
readable size len i p l h =
    let q : i < len / size = rw (ne_eqb size 0 (λ e. omega arith)) at h in
    let w = inside size len i p q in
    rw (ne_eqb len 0 (λ e. omega arith), lt-leb (2 ^ 64) (i * size) (omega arith), le-ltb len (i * size) (omega arith), le-leb _ _ w)

pub counted : (size len i : ℕ) → 0 < size → entry_fault size len i ≡ Ok tt → i < count_of size len
unfolding count_of
counted size len i p e =
    let w = whole size len i e in
    rw (ne_eqb size 0 (λ e. omega arith))
    ((le-div_iff_mul-le {k = size} {x = suc i} {y = len} p).1 (rw suc-mul w))

-- a search that is not over: what is left of n numbers after i of them
pub first_here : (p : ℕ → Bool) (n i : ℕ) → i < n → p i ≡ true → first_from p (n - i) i ≡ Some i
unfolding first_from
first_here p n i h t = let e : n - i ≡ suc (n - (i + 1)) = omega arith in rw (e, t)

pub first_later : (p : ℕ → Bool) (n i : ℕ) → i < n → p i ≡ false → first_from p (n - i) i ≡ first_from p (n - (i + 1)) (i + 1)
unfolding first_from
first_later p n i h t = let e : n - i ≡ suc (n - (i + 1)) = omega arith in rw (e, t)

pub first_none : (p : ℕ → Bool) (n i : ℕ) → n ≤ i → first_from p (n - i) i ≡ None
unfolding first_from
first_none p n i h = let e : n - i ≡ 0 = omega arith in rw e

-- what is found lies among the numbers that were looked at
pub first_bounds : (p : ℕ → Bool) (n i k : ℕ) → first_from p n i ≡ Some k → (i ≤ k) × (k < i + n)
unfolding first_from
first_bounds p zero i k e = let z : ◌≡◌ {A = ℕ} 0 1 = cc in absurd (omega arith)
first_bounds p (suc n) i k e = pick (p i) (first_bounds p n (i + 1) k) e
  where
    pick : (b : Bool) → (first_from p n (i + 1) ≡ Some k → (i + 1 ≤ k) × (k < i + 1 + n)) → cond b (Some i) (first_from p n (i + 1)) ≡ Some k
        → (i ≤ k) × (k < i + suc n)
    pick true f q = let z : i ≡ k = cc in omega arith
    pick false f q = let h = f q in omega arith

-- a test that no number passes
pub first_never : (p : ℕ → Bool) (n i : ℕ) → ((k : ℕ) → p k ≡ false) → first_from p n i ≡ None
unfolding first_from
first_never p zero i h = refl
first_never p (suc n) i h = rw (h i) (first_never p n (i + 1) h)

-- a range that was told lies in the data
pub range_inside : (len o n : ℕ) (r : Range) → range_at len o n ≡ Ok r → (r.from ≤ r.to) × (r.to ≤ len)
unfolding range_at range_fault
range_inside len o n r e = grind (arith, nat_tests)
