-- The laws of `signed`: what two's complement says of a number below half of its range, and of one above.
-- Assumes nothing.
use Prim.Native.Nat.{ℕ, suc, ◌*◌, ◌-◌, ◌^◌, ◌<◌, ◌≤◌}
use native.Mathlib.Omega.{arith}
use mathlib.Core.Path.{◌≡◌}
use lib.IntN.{pos, negsuc}
use borrow.Author.Tests.{lt-ltb, le-ltb}
use mir.Val.{to_z}
use mir.Syntax.{w32, w64}
use Rattle.std.proofs.lemmas.Bool.Decides.{nat_tests}
use Rattle.endian.specs.Number.{signed}

pub signed_low : (w n : ℕ) → 2 * n < 256 ^ w → signed w n ≡ pos n
unfolding signed
signed_low w n h = rw (lt-ltb (2 * n) (256 ^ w) h)

pub signed_high : (w n b : ℕ) → 256 ^ w ≡ suc b → suc b ≤ 2 * n → n < suc b → signed w n ≡ negsuc (suc b - suc n)
unfolding signed
signed_high w n b e h l = rw (e, le-ltb (2 * n) (suc b) h, lt-ltb n (suc b) l)

pub cast32 : (n : ℕ) → n < 2 ^ 32 → to_z w32 n ≡ signed 4 n
cast32 n h = grind (arith, nat_tests, signed_low 4 n, signed_high 4 n)

pub cast64 : (n : ℕ) → n < 2 ^ 64 → to_z w64 n ≡ signed 8 n
cast64 n h = grind (arith, nat_tests, signed_low 8 n, signed_high 8 n)
