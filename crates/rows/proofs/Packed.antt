-- A packed symbol says no less than the plain row: its three small fields are got back from the second value.
-- Assumes nothing.
use Prim.Native.Nat.{ℕ, ◌/◌, ◌%◌, ◌^◌, ◌<◌}
use native.Mathlib.Omega.{arith}
use mathlib.Core.Path.{◌≡◌}
use lib.ListN.{get_or}
use Rattle.symbol.specs.declared.Symbol.{Symbol}
use Rattle.rows.specs.Row.{packed_row}

-- v is the second value of the packed symbol
pub unpacked : (s : Symbol) (v : ℕ) → v ≡ get_or (packed_row s) 1 0 → s.info < 2 ^ 8 → s.other < 2 ^ 8
    → (v % 2 ^ 8 ≡ s.info) × (v / 2 ^ 8 % 2 ^ 8 ≡ s.other) × (v / 2 ^ 16 ≡ s.shndx)
unpacked s v e i o = (omega arith, omega arith, omega arith)
