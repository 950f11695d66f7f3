-- The laws of `number_at`: one byte is a number, a number is made of the numbers of its parts, and a run of stores in front of it or
-- behind it leaves it.
-- Assumes nothing.
use Prim.Native.Nat.{ℕ, zero, suc, ◌+◌, ◌^◌, ◌≤◌}
use native.Mathlib.Nat.{add-zero, zero-add, suc-add, pow-succ', mul_assoc, mul_comm, mul-add}
use native.Mathlib.Omega.{arith}
use mathlib.Core.Path.{◌≡◌, refl, ◌∙◌}
use mathlib.Core.List.{List, [], ◌∷◌}
use lib.ListN.{length, get_or, set}
use lib.Pow.{pow-add}
use lib.Seq.{sets, get_or-set_other}
use Rattle.endian.specs.Number.{number_at, joined}
use Rattle.endian.specs.declared.Order.{Order}
use Rattle.endian.specs.declared.Order.TheVariants.{Little, Big}
use Rattle.endian.proofs.Written.{get_d_sets_before, number_same}

-- one byte is its own number
pub number_one : (e : Order) (s : List ℕ) (o : ℕ) → number_at e 1 s o ≡ get_or s o 0
unfolding number_at
number_one Little s o = omega arith
number_one Big s o = omega arith

-- the bytes at o and those after them, together
pub number_add : (e : Order) (a b : ℕ) (s : List ℕ) (o : ℕ)
    → number_at e (a + b) s o ≡ joined e a b (number_at e a s o) (number_at e b s (o + a))
unfolding number_at
number_add Little zero b s o = rw (zero-add b, add-zero) (omega arith)
number_add Big zero b s o = rw (zero-add b, add-zero) (omega arith)
number_add Little (suc a) b s o =
    let e : o + suc a ≡ o + 1 + a = omega arith in
    rw (suc-add, number_add Little a b s (o + 1), e, pow-succ' 256 a, mul_assoc 256 (256 ^ a)) (omega arith)
number_add Big (suc a) b s o =
    let e : o + suc a ≡ o + 1 + a = omega arith in
    rw (suc-add, number_add Big a b s (o + 1), e, pow-add 256 a b, mul-add, ← mul_assoc, mul_comm (256 ^ b) (256 ^ a))
    (omega arith)

-- what stands behind a run of stores is as it was
pub get_d_sets_after : (vs s : List ℕ) (i k : ℕ) → i + length vs ≤ k → get_or (sets s i vs) k 0 ≡ get_or s k 0
get_d_sets_after [] s i k h = refl
get_d_sets_after (v ∷ vs) s i k h =
    get_d_sets_after vs (set s i v) (suc i) k (omega arith) ∙ get_or-set_other s i k v 0 (λ e. omega arith)

pub number_before : (e : Order) (w : ℕ) (vs s : List ℕ) (o i : ℕ) → o + w ≤ i → number_at e w (sets s i vs) o ≡ number_at e w s o
number_before e w vs s o i h = number_same e w (sets s i vs) s o (λ k p q. get_d_sets_before vs s i k (omega arith))

pub number_after : (e : Order) (w : ℕ) (vs s : List ℕ) (o i : ℕ) → i + length vs ≤ o → number_at e w (sets s i vs) o ≡ number_at e w s o
number_after e w vs s o i h = number_same e w (sets s i vs) s o (λ k p q. get_d_sets_after vs s i k (omega arith))
