-- The laws of `twos`: it is the machine's two's complement of 64 bits, and it reads back.
-- Assumes nothing.
use Prim.Native.Nat.{suc, ◌-◌, ◌^◌, ◌<◌}
use mathlib.Core.Path.{◌≡◌, refl, ap, ◌∙◌}
use native.Mathlib.Omega.{arith}
use lib.IntN.{ℤ, pos, negsuc}
use mir.Val.{SFits, of_z}
use mir.Syntax.{w64}
use Rattle.endian.specs.Number.{signed}
use Rattle.endian.proofs.Signed.{signed_low, signed_high}
use Rattle.rows.specs.Row.{twos}

-- the bits of a number that fits
pub twos_cast : (z : ℤ) → of_z w64 z ≡ twos 8 z
twos_cast (pos n) = refl
twos_cast (negsuc m) = refl

-- what crosses is below 2 ^ 64 and reads back
pub twos_fits : (z : ℤ) → SFits w64 z → twos 8 z < 2 ^ 64
twos_fits (pos n) f = omega (arith, f.sfits)
twos_fits (negsuc m) f = omega (arith, f.sfits)

pub twos_back : (z : ℤ) → SFits w64 z → signed 8 (twos 8 z) ≡ z
twos_back (pos n) f = signed_low 8 n (omega (arith, f.sfits))
twos_back (negsuc m) f =
    signed_high 8 (18446744073709551616 - suc m) 18446744073709551615 refl (omega (arith, f.sfits)) (omega (arith, f.sfits)) ∙ ap negsuc (omega (arith, f.sfits))
