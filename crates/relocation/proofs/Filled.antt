-- The places of the fields fill an entry exactly, without addend and with it.
-- Assumes nothing.
use mathlib.Core.List.{map}
use native.Mathlib.Omega.{arith}
use Rattle.endian.specs.Place.{Fills, size_of, rel, rela}
use Rattle.endian.specs.declared.Class.{Class}
use Rattle.endian.specs.declared.Class.TheVariants.{Elf32, Elf64}
use Rattle.relocation.specs.Layout.{place_of, rel_fields, rela_fields}

pub rel_filled : (c : Class) → Fills 0 (map (place_of c) rel_fields) (size_of rel c)
rel_filled Elf32 = omega arith
rel_filled Elf64 = omega arith

pub rela_filled : (c : Class) → Fills 0 (map (place_of c) rela_fields) (size_of rela c)
rela_filled Elf32 = omega arith
rela_filled Elf64 = omega arith
