-- Section headers of the System V ABI (chapter 4): where each field stands in an entry, in both classes.
-- place_of c f      the place of the field f in an entry of the class c
-- fields c         every field, in the order of the places
-- section_at c e s o  the entry at o of the bytes s, in the class c and the order e
-- extent_of h         of an entry: where its bytes stand, its link and its entry size
-- Assumes nothing.
use Rattle.std.specs.Prelude.{ℕ, ◌+◌, List, [], ◌∷◌}
use Rattle.endian.specs.Place.{Place, place, field_at}
use Rattle.endian.specs.declared.Order.{Order}
use Rattle.endian.specs.declared.Class.{Class}
use Rattle.endian.specs.declared.Class.TheVariants.{Elf32, Elf64}
use Rattle.section.specs.declared.SectionHeader.{SectionHeader}
use Rattle.section.specs.declared.Extent.{Extent}

pub data Field : Type 0 where
  sh_name : Field
  sh_type : Field
  sh_flags : Field
  sh_addr : Field
  sh_offset : Field
  sh_size : Field
  sh_link : Field
  sh_info : Field
  sh_addralign : Field
  sh_entsize : Field

-- the same order in both classes; name, type, link and info are words in both
abbrev pub place_of : Class → Field → Place
place_of Elf32 sh_name = place 0 4
place_of Elf32 sh_type = place 4 4
place_of Elf32 sh_flags = place 8 4
place_of Elf32 sh_addr = place 12 4
place_of Elf32 sh_offset = place 16 4
place_of Elf32 sh_size = place 20 4
place_of Elf32 sh_link = place 24 4
place_of Elf32 sh_info = place 28 4
place_of Elf32 sh_addralign = place 32 4
place_of Elf32 sh_entsize = place 36 4
place_of Elf64 sh_name = place 0 4
place_of Elf64 sh_type = place 4 4
place_of Elf64 sh_flags = place 8 8
place_of Elf64 sh_addr = place 16 8
place_of Elf64 sh_offset = place 24 8
place_of Elf64 sh_size = place 32 8
place_of Elf64 sh_link = place 40 4
place_of Elf64 sh_info = place 44 4
place_of Elf64 sh_addralign = place 48 8
place_of Elf64 sh_entsize = place 56 8

abbrev pub fields : Class → List Field
fields Elf32 = sh_name ∷ sh_type ∷ sh_flags ∷ sh_addr ∷ sh_offset ∷ sh_size ∷ sh_link ∷ sh_info ∷ sh_addralign ∷ sh_entsize ∷ []
fields Elf64 = sh_name ∷ sh_type ∷ sh_flags ∷ sh_addr ∷ sh_offset ∷ sh_size ∷ sh_link ∷ sh_info ∷ sh_addralign ∷ sh_entsize ∷ []

unfoldable pub section_at : Class → Order → List ℕ → ℕ → SectionHeader
section_at c e s o = record {
  name = field_at e (place_of c sh_name) s o;
  kind = field_at e (place_of c sh_type) s o;
  flags = field_at e (place_of c sh_flags) s o;
  addr = field_at e (place_of c sh_addr) s o;
  offset = field_at e (place_of c sh_offset) s o;
  size = field_at e (place_of c sh_size) s o;
  link = field_at e (place_of c sh_link) s o;
  info = field_at e (place_of c sh_info) s o;
  addralign = field_at e (place_of c sh_addralign) s o;
  entsize = field_at e (place_of c sh_entsize) s o;
}

abbrev pub extent_of : SectionHeader → Extent
extent_of h = record { offset = h.offset; size = h.size; link = h.link; entsize = h.entsize }
