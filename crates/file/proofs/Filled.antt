-- The places of the header's fields fill it exactly, behind the 16 bytes of the identification.
-- Assumes nothing.
use mathlib.Core.List.{map}
use native.Mathlib.Omega.{arith}
use Rattle.endian.specs.Place.{Fills, size_of, file_header}
use Rattle.endian.specs.declared.Class.{Class}
use Rattle.endian.specs.declared.Class.TheVariants.{Elf32, Elf64}
use Rattle.file.specs.Layout.{place_of, fields}

pub filled : (c : Class) → Fills 16 (map (place_of c) fields) (size_of file_header c)
filled Elf32 = omega arith
filled Elf64 = omega arith
