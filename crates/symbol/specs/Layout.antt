-- Symbols of the System V ABI (chapter 4): where each field stands in an entry, in both classes.
-- place_of c f      the place of the field f in an entry of the class c
-- fields c         every field, in the order of the places
-- symbol_at c e s o   the entry at o of the bytes s, in the class c and the order e
-- Assumes nothing.
use Rattle.std.specs.Prelude.{ℕ, ◌+◌, List, [], ◌∷◌}
use Rattle.endian.specs.Place.{Place, place, field_at}
use Rattle.endian.specs.declared.Order.{Order}
use Rattle.endian.specs.declared.Class.{Class}
use Rattle.endian.specs.declared.Class.TheVariants.{Elf32, Elf64}
use Rattle.symbol.specs.declared.Symbol.{Symbol}

pub data Field : Type 0 where
  st_name : Field
  st_info : Field
  st_other : Field
  st_shndx : Field
  st_value : Field
  st_size : Field

-- value and size stand last in a 64-bit entry, and second and third in a 32-bit one
abbrev pub place_of : Class → Field → Place
place_of Elf32 st_name = place 0 4
place_of Elf32 st_value = place 4 4
place_of Elf32 st_size = place 8 4
place_of Elf32 st_info = place 12 1
place_of Elf32 st_other = place 13 1
place_of Elf32 st_shndx = place 14 2
place_of Elf64 st_name = place 0 4
place_of Elf64 st_info = place 4 1
place_of Elf64 st_other = place 5 1
place_of Elf64 st_shndx = place 6 2
place_of Elf64 st_value = place 8 8
place_of Elf64 st_size = place 16 8

abbrev pub fields : Class → List Field
fields Elf32 = st_name ∷ st_value ∷ st_size ∷ st_info ∷ st_other ∷ st_shndx ∷ []
fields Elf64 = st_name ∷ st_info ∷ st_other ∷ st_shndx ∷ st_value ∷ st_size ∷ []

unfoldable pub symbol_at : Class → Order → List ℕ → ℕ → Symbol
symbol_at c e s o = record {
  name = field_at e (place_of c st_name) s o;
  shndx = field_at e (place_of c st_shndx) s o;
  info = field_at e (place_of c st_info) s o;
  other = field_at e (place_of c st_other) s o;
  value = field_at e (place_of c st_value) s o;
  size = field_at e (place_of c st_size) s o;
}
