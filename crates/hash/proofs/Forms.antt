-- Both forms of the SysV hash agree: after each byte the ABI's is the low 28 bits of document 01's.
-- Assumes nothing.
use Prim.Native.Nat.{ℕ, zero, suc, ◌+◌, ◌*◌, ◌-◌, ◌/◌, ◌%◌, ◌^◌, ◌<◌, min}
use native.Mathlib.Nat.{pow-suc}
use native.Mathlib.Omega.{arith}
use mathlib.Core.Path.{◌≡◌, refl, ap, ◌∙◌}
use mathlib.Core.Bool.{Bool, true, false, cond}
use mathlib.Core.List.{List, [], ◌∷◌}
use lib.Bits.{bit_and, bit_xor, and_step, and_zero_l, and_high, and_block, and_mask, xor_shr, xor_zero_r}
use lib.Dec.{eqb}
use borrow.Author.Tests.{eqb-true}
use Rattle.hash.specs.Sysv.{mixed, sysv_step, sysv_from, sysv_hash, folded, cleared, abi_step, abi_from, abi_hash}

-- a number and its complement have no bit in common
apart : (k a : ℕ) → a < 2 ^ k → bit_and a (2 ^ k - 1 - a) ≡ 0
apart zero a h = let e : a ≡ 0 = omega arith in rw (e, and_zero_l)
apart (suc k) a h =
    let p = pow-suc 2 k in
    let half : (2 ^ suc k - 1 - a) / 2 ≡ 2 ^ k - 1 - a / 2 = omega arith in
    let odd : min (a % 2) ((2 ^ suc k - 1 - a) % 2) ≡ 0 = omega arith in
    let r = apart k (a / 2) (omega arith) in
    rw (and_step a (2 ^ suc k - 1 - a), half, r) (omega arith)

-- the high four bits, moved to bits 4 up
module _ (n : ℕ) (small : n < 2 ^ 32) where
  high_bits : bit_and n 0xf000_0000 ≡ n / 2 ^ 28 * 2 ^ 28
  high_bits = and_high n 4 28 ∙ omega arith

  moved_bits : bit_and (n / 2 ^ 24) 0xf0 ≡ n / 2 ^ 28 * 16
  moved_bits = and_high (n / 2 ^ 24) 4 4 ∙ omega arith

  mixed_high : mixed n / 2 ^ 28 ≡ n / 2 ^ 28
  mixed_high =
      let z : n / 2 ^ 28 * 16 / 2 ^ 28 ≡ 0 = omega arith in
      rw (moved_bits, xor_shr n (n / 2 ^ 28 * 16) 28, z, xor_zero_r)

  folded_mixed : folded n (n / 2 ^ 28 * 2 ^ 28) ≡ mixed n
  folded_mixed = rw moved_bits (pick (eqb (n / 2 ^ 28 * 2 ^ 28) 0) refl)
    where
      pick : (t : Bool) → eqb (n / 2 ^ 28 * 2 ^ 28) 0 ≡ t → cond t n (bit_xor n (n / 2 ^ 28 * 2 ^ 28 / 2 ^ 24)) ≡ bit_xor n (n / 2 ^ 28 * 16)
      pick true q =
          let z : n / 2 ^ 28 * 2 ^ 28 ≡ 0 = eqb-true _ _ q in
          let y : n / 2 ^ 28 * 16 ≡ 0 = omega arith in
          rw (y, xor_zero_r)
      pick false q = let y : n / 2 ^ 28 * 2 ^ 28 / 2 ^ 24 ≡ n / 2 ^ 28 * 16 = omega arith in rw y

  low_bits : (m a : ℕ) → a < 16 → m / 2 ^ 28 ≡ a → bit_and m (2 ^ 32 - 1 - a * 2 ^ 28) ≡ m % 2 ^ 28
  low_bits m a h e =
      let p : m ≡ a * 2 ^ 28 + m % 2 ^ 28 = omega arith in
      let q : 2 ^ 32 - 1 - a * 2 ^ 28 ≡ (15 - a) * 2 ^ 28 + (2 ^ 28 - 1) = omega arith in
      ap (λ (x : ℕ). bit_and x (2 ^ 32 - 1 - a * 2 ^ 28)) p
      ∙ ap (λ (x : ℕ). bit_and (a * 2 ^ 28 + m % 2 ^ 28) x) q
      ∙ and_block 28 a (15 - a) (m % 2 ^ 28) (2 ^ 28 - 1) (omega arith) (omega arith)
      ∙ rw (apart 4 a h, and_mask (m % 2 ^ 28) 28) (omega arith)

  cleared_mixed : cleared n (bit_and n 0xf000_0000) ≡ mixed n % 2 ^ 28
  cleared_mixed = rw (high_bits, folded_mixed) (low_bits (mixed n) (n / 2 ^ 28) (omega arith) mixed_high)

-- one byte
agree_step : (h b : ℕ) → abi_step (h % 2 ^ 28) b ≡ sysv_step h b % 2 ^ 28
unfolding abi_step sysv_step
agree_step h b =
    let e : (16 * (h % 2 ^ 28) + b) % 2 ^ 32 ≡ (16 * h + b) % 2 ^ 32 = omega arith in
    rw e (cleared_mixed ((16 * h + b) % 2 ^ 32) (omega arith))

agree_from : (h : ℕ) (s : List ℕ) → abi_from (h % 2 ^ 28) s ≡ sysv_from h s % 2 ^ 28
unfolding abi_from sysv_from
agree_from h [] = refl
agree_from h (b ∷ s) = rw (agree_step h b) (agree_from (sysv_step h b) s)

pub forms_agree : (s : List ℕ) → abi_hash s ≡ sysv_hash s
unfolding abi_hash sysv_hash
forms_agree s = agree_from 0 s
