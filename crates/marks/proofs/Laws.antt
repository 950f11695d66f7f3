-- The laws of marks: none is there at first, and marking a number marks it and no other.
-- Assumes nothing.
use Prim.Native.Nat.{ℕ, zero, suc, ◌+◌, ◌-◌, ◌*◌, ◌/◌, ◌%◌, ◌^◌, ◌<◌}
use native.Mathlib.Nat.{pow-suc, zero-mul, zero-add, one-mul, zero-div, mod-lt, eq-or-lt_of_le}
use native.Mathlib.Omega.{arith}
use mathlib.Core.Path.{◌≡◌, refl, sym}
use mathlib.Core.Bool.{Bool, true, false}
use mathlib.Core.Logic.{⊎_elim}
use mathlib.Core.List.{List}
use lib.ListN.{length, get_or, set, replicate, length-set}
use lib.Seq.{get_or-set_same, get_or-set_other}
use lib.Bits.{bit_or, or_shr, or_mod, or_zero_r, or_comm}
use lib.Pow.{pow-lt, pow-add, shl-shr, high}
use lib.Dec.{eqb, ltb}
use borrow.Author.Tests.{eqb-true, eqb-false, ltb-true, ltb-false}
use Rattle.marks.specs.Marks.{marked, marking}

zeros : (n i : ℕ) → get_or (replicate n 0) i 0 ≡ zero
zeros zero i = refl
zeros (suc n) zero = refl
zeros (suc n) (suc i) = zeros n i

pub fresh : (n i : ℕ) → marked (replicate n 0) i ≡ false
unfolding marked
fresh n i = rw (zeros n (i / 8), zero-div (2 ^ (i % 8)))

-- marking leaves as many marks as there were
pub marking_length : (m : List ℕ) (i : ℕ) → length (marking m i) ≡ length m
unfolding marking
marking_length m i = length-set m (i / 8) _

-- bit l of b or of bit k
bit_or_power : (b k l : ℕ) → bit_or b (2 ^ k) / 2 ^ l % 2 ≡ bit_or (b / 2 ^ l % 2) (2 ^ k / 2 ^ l % 2)
bit_or_power b k l = rw (or_shr b (2 ^ k) l) (or_mod (b / 2 ^ l) (2 ^ k / 2 ^ l) 1)

-- a power of two has no bit but its own
other_bit : (k l : ℕ) → (k ≡ l → ⊥) → 2 ^ k / 2 ^ l % 2 ≡ 0
other_bit k l n = pick (ltb k l) refl
  where
    pick : (x : Bool) → ltb k l ≡ x → 2 ^ k / 2 ^ l % 2 ≡ 0
    pick true q =
        let e : 2 ^ k / 2 ^ l ≡ 0 = rw (zero-mul, zero-add) at (high 0 l {lo = 2 ^ k} (pow-lt (ltb-true k l q))) in
        rw e
    pick false q =
        let g = ltb-false k l q in
        let less = ⊎_elim (λ e. absurd (n (sym e))) (λ h. h) (eq-or-lt_of_le g) in
        let s : suc (k - l - 1) + l ≡ k = omega (arith, less) in
        let e = rw s at (pow-add 2 (suc (k - l - 1)) l) in
        rw (e, shl-shr (2 ^ suc (k - l - 1)) l, pow-suc 2 (k - l - 1)) (omega arith)

own_bit : (k : ℕ) → 2 ^ k / 2 ^ k % 2 ≡ 1
own_bit k = let e : 2 ^ k / 2 ^ k ≡ 1 = rw (one-mul) at (shl-shr 1 k) in rw e

one_or : (b : ℕ) → b < 2 → eqb (bit_or 1 b) 1 ≡ true
one_or zero h = refl
one_or (suc zero) h = refl
one_or (suc (suc b)) h = absurd (omega arith)

-- what is marked afterwards was marked before, or is the number itself
pub marking_told : (m : List ℕ) (i j : ℕ) → i < 8 * length m → marked (marking m i) j ≡ true → (i ≡ j → ⊥) → marked m j ≡ true
unfolding marked marking
marking_told m i j h e n = pick (eqb (j / 8) (i / 8)) refl
  where
    v : ℕ
    v = bit_or (get_or m (i / 8) 0) (2 ^ (i % 8))

    pick : (x : Bool) → eqb (j / 8) (i / 8) ≡ x → eqb (get_or m (j / 8) 0 / 2 ^ (j % 8) % 2) 1 ≡ true
    pick true q =
        let d : j / 8 ≡ i / 8 = eqb-true _ _ q in
        let k : i % 8 ≡ j % 8 → ⊥ = λ r. n (omega arith) in
        let b : v / 2 ^ (j % 8) % 2 ≡ get_or m (i / 8) 0 / 2 ^ (j % 8) % 2 = rw (bit_or_power (get_or m (i / 8) 0) (i % 8) (j % 8), other_bit (i % 8) (j % 8) k) (or_zero_r _) in
        rw d (rw (d, get_or-set_same m (i / 8) v 0 (omega arith), b) at e)
    pick false q = rw (get_or-set_other m (i / 8) (j / 8) v 0 (eqb-false _ _ q)) at e

-- what was marked stays so, and the number itself is marked
pub marking_keeps : (m : List ℕ) (i j : ℕ) → i < 8 * length m → marked m j ≡ true → marked (marking m i) j ≡ true
unfolding marked marking
marking_keeps m i j h e = pick (eqb (j / 8) (i / 8)) refl
  where
    v : ℕ
    v = bit_or (get_or m (i / 8) 0) (2 ^ (i % 8))

    pick : (x : Bool) → eqb (j / 8) (i / 8) ≡ x → eqb (get_or (set m (i / 8) v) (j / 8) 0 / 2 ^ (j % 8) % 2) 1 ≡ true
    pick true q =
        let d : j / 8 ≡ i / 8 = eqb-true _ _ q in
        let o : get_or m (i / 8) 0 / 2 ^ (j % 8) % 2 ≡ 1 = eqb-true _ _ (rw d at e) in
        rw (d, get_or-set_same m (i / 8) v 0 (omega arith), bit_or_power (get_or m (i / 8) 0) (i % 8) (j % 8), o) (one_or (2 ^ (i % 8) / 2 ^ (j % 8) % 2) (mod-lt _ (omega arith)))
    pick false q = rw (get_or-set_other m (i / 8) (j / 8) v 0 (eqb-false _ _ q)) e

pub marking_marks : (m : List ℕ) (i : ℕ) → i < 8 * length m → marked (marking m i) i ≡ true
unfolding marked marking
marking_marks m i h =
    rw (get_or-set_same m (i / 8) (bit_or (get_or m (i / 8) 0) (2 ^ (i % 8))) 0 (omega arith), bit_or_power (get_or m (i / 8) 0) (i % 8) (i % 8), own_bit (i % 8), or_comm (get_or m (i / 8) 0 / 2 ^ (i % 8) % 2) 1)
    (one_or (get_or m (i / 8) 0 / 2 ^ (i % 8) % 2) (mod-lt _ (omega arith)))
