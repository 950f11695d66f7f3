-- Relocations of the System V ABI (chapter 4): where each field stands in an entry, with and without addend, in both classes.
-- place_of c f          the place of the field f in an entry of the class c; one table, for an entry without addend is the first part of one with
-- rel_fields           the fields of an entry without addend, in the order of the places
-- rela_fields          those of an entry with addend
-- sym_of c i, kind_of c i  the symbol and the type that the info field i says (ELF32_R_SYM, ELF32_R_TYPE, ELF64_R_SYM, ELF64_R_TYPE)
-- rel_at c e s o       the entry without addend at o of the bytes s, in the class c and the order e
-- rela_at c e s o      the entry with addend
-- Assumes nothing.
use Rattle.std.specs.Prelude.{ℕ, ◌+◌, ◌/◌, ◌%◌, ◌^◌, List, [], ◌∷◌}
use Rattle.endian.specs.Number.{signed}
use Rattle.endian.specs.Place.{Place, place, field_at}
use Rattle.endian.specs.declared.Order.{Order}
use Rattle.endian.specs.declared.Class.{Class}
use Rattle.endian.specs.declared.Class.TheVariants.{Elf32, Elf64}
use Rattle.relocation.specs.declared.Rel.{Rel}
use Rattle.relocation.specs.declared.Rela.{Rela}

pub data Field : Type 0 where
  r_offset : Field
  r_info : Field
  r_addend : Field

abbrev pub place_of : Class → Field → Place
place_of Elf32 r_offset = place 0 4
place_of Elf32 r_info = place 4 4
place_of Elf32 r_addend = place 8 4
place_of Elf64 r_offset = place 0 8
place_of Elf64 r_info = place 8 8
place_of Elf64 r_addend = place 16 8

abbrev pub rel_fields : List Field
rel_fields = r_offset ∷ r_info ∷ []

abbrev pub rela_fields : List Field
rela_fields = r_offset ∷ r_info ∷ r_addend ∷ []

-- 32-bit: bits 8 up and the low 8; 64-bit: the upper 32 and the lower 32
abbrev pub sym_of : Class → ℕ → ℕ
sym_of Elf32 i = i / 256
sym_of Elf64 i = i / 2 ^ 32

abbrev pub kind_of : Class → ℕ → ℕ
kind_of Elf32 i = i % 256
kind_of Elf64 i = i % 2 ^ 32

unfoldable pub rel_at : Class → Order → List ℕ → ℕ → Rel
rel_at c e s o = record {
  offset = field_at e (place_of c r_offset) s o;
  sym = sym_of c (field_at e (place_of c r_info) s o);
  kind = kind_of c (field_at e (place_of c r_info) s o);
}

unfoldable pub rela_at : Class → Order → List ℕ → ℕ → Rela
rela_at c e s o = record {
  offset = field_at e (place_of c r_offset) s o;
  sym = sym_of c (field_at e (place_of c r_info) s o);
  kind = kind_of c (field_at e (place_of c r_info) s o);
  addend = signed (place_of c r_addend).wide (field_at e (place_of c r_addend) s o);
}
