-- The places of the fields fill an entry exactly.
-- Assumes nothing.
use mathlib.Core.List.{map}
use native.Mathlib.Omega.{arith}
use Rattle.endian.specs.Place.{Fills, size_of, dynamic}
use Rattle.endian.specs.declared.Class.{Class}
use Rattle.endian.specs.declared.Class.TheVariants.{Elf32, Elf64}
use Rattle.dynamic.specs.Layout.{place_of, fields}

pub filled : (c : Class) → Fills 0 (map (place_of c) fields) (size_of dynamic c)
filled Elf32 = omega arith
filled Elf64 = omega arith
