-- Program headers of the System V ABI (chapter 5): where each field stands in an entry, in both classes.
-- place_of c f      the place of the field f in an entry of the class c
-- fields c         every field, in the order of the places
-- segment_at c e s o  the entry at o of the bytes s, in the class c and the order e
-- Assumes nothing.
use Rattle.std.specs.Prelude.{ℕ, ◌+◌, List, [], ◌∷◌}
use Rattle.endian.specs.Place.{Place, place, field_at}
use Rattle.endian.specs.declared.Order.{Order}
use Rattle.endian.specs.declared.Class.{Class}
use Rattle.endian.specs.declared.Class.TheVariants.{Elf32, Elf64}
use Rattle.segment.specs.declared.ProgramHeader.{ProgramHeader}

pub data Field : Type 0 where
  p_type : Field
  p_flags : Field
  p_offset : Field
  p_vaddr : Field
  p_paddr : Field
  p_filesz : Field
  p_memsz : Field
  p_align : Field

-- the flags stand second in a 64-bit entry and seventh in a 32-bit one
abbrev pub place_of : Class → Field → Place
place_of Elf32 p_type = place 0 4
place_of Elf32 p_offset = place 4 4
place_of Elf32 p_vaddr = place 8 4
place_of Elf32 p_paddr = place 12 4
place_of Elf32 p_filesz = place 16 4
place_of Elf32 p_memsz = place 20 4
place_of Elf32 p_flags = place 24 4
place_of Elf32 p_align = place 28 4
place_of Elf64 p_type = place 0 4
place_of Elf64 p_flags = place 4 4
place_of Elf64 p_offset = place 8 8
place_of Elf64 p_vaddr = place 16 8
place_of Elf64 p_paddr = place 24 8
place_of Elf64 p_filesz = place 32 8
place_of Elf64 p_memsz = place 40 8
place_of Elf64 p_align = place 48 8

abbrev pub fields : Class → List Field
fields Elf32 = p_type ∷ p_offset ∷ p_vaddr ∷ p_paddr ∷ p_filesz ∷ p_memsz ∷ p_flags ∷ p_align ∷ []
fields Elf64 = p_type ∷ p_flags ∷ p_offset ∷ p_vaddr ∷ p_paddr ∷ p_filesz ∷ p_memsz ∷ p_align ∷ []

unfoldable pub segment_at : Class → Order → List ℕ → ℕ → ProgramHeader
segment_at c e s o = record {
  kind = field_at e (place_of c p_type) s o;
  offset = field_at e (place_of c p_offset) s o;
  vaddr = field_at e (place_of c p_vaddr) s o;
  paddr = field_at e (place_of c p_paddr) s o;
  filesz = field_at e (place_of c p_filesz) s o;
  memsz = field_at e (place_of c p_memsz) s o;
  flags = field_at e (place_of c p_flags) s o;
  align = field_at e (place_of c p_align) s o;
}
