-- The places of the fields fill an entry exactly.
-- Assumes nothing.
use mathlib.Core.List.{map}
use Prim.Native.Nat.{◌≤◌}
use native.Mathlib.Omega.{arith}
use Rattle.endian.specs.Place.{Fills, size_of, program_header}
use Rattle.endian.specs.declared.Class.{Class}
use Rattle.endian.specs.declared.Class.TheVariants.{Elf32, Elf64}
use Rattle.segment.specs.Layout.{place_of, fields}

pub filled : (c : Class) → Fills 0 (map (place_of c) (fields c)) (size_of program_header c)
filled Elf32 = omega arith
filled Elf64 = omega arith

-- an entry is no smaller than its first fields
pub wide : (c : Class) → 32 ≤ size_of program_header c
wide Elf32 = omega arith
wide Elf64 = omega arith
