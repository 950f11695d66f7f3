-- The SysV hash of a name, in document 01's short form and in the ABI's own longer one, both in 32 bits.
-- shifted h b       16h + b, wrapping
-- sysv_step h b     one byte: then xor with bits 24 up, and f0 hex
-- sysv_from h s     all bytes
-- sysv_hash s       the low 28 bits at the end
-- abi_step h b      one byte of the ABI's form: the high four bits are folded in, if there are any, and then cleared
-- abi_hash s        all bytes
-- Assumes nothing.
use Rattle.std.specs.Prelude.{ℕ, ◌+◌, ◌*◌, ◌-◌, ◌/◌, ◌%◌, ◌^◌, cond, List, [], ◌∷◌, eqb}
use Rattle.std.specs.Int.Bits.{bit_and, bit_xor}

abbrev pub shifted : ℕ → ℕ → ℕ
shifted h b = (16 * h + b) % 2 ^ 32

abbrev pub mixed : ℕ → ℕ
mixed n = bit_xor n (bit_and (n / 2 ^ 24) 0xf0)

unfoldable pub sysv_step : ℕ → ℕ → ℕ
sysv_step h b = mixed (shifted h b)

unfoldable pub sysv_from : ℕ → List ℕ → ℕ
sysv_from h [] = h
sysv_from h (b ∷ s) = sysv_from (sysv_step h b) s

unfoldable pub sysv_hash : List ℕ → ℕ
sysv_hash s = sysv_from 0 s % 2 ^ 28

-- n after `if (g) n ^= g >> 24`
abbrev pub folded : ℕ → ℕ → ℕ
folded n g = cond (eqb g 0) n (bit_xor n (g / 2 ^ 24))

-- n after `g = n & 0xf0000000`, the fold, and `n &= ~g`
abbrev pub cleared : ℕ → ℕ → ℕ
cleared n g = bit_and (folded n g) (2 ^ 32 - 1 - g)

unfoldable pub abi_step : ℕ → ℕ → ℕ
abi_step h b = cleared (shifted h b) (bit_and (shifted h b) 0xf000_0000)

unfoldable pub abi_from : ℕ → List ℕ → ℕ
abi_from h [] = h
abi_from h (b ∷ s) = abi_from (abi_step h b) s

unfoldable pub abi_hash : List ℕ → ℕ
abi_hash s = abi_from 0 s
