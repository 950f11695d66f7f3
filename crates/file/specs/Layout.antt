-- The ELF header of the System V ABI (chapter 4): where each field stands and how wide it is, in both classes.
-- place_of c f       the place of the field f in a header of the class c
-- fields            every field, in the order of the places
-- header_at c e s    the header that a file's bytes s say, in the class c and the order e
-- outline_of h      what opening asks of a header
-- Assumes nothing.
use Rattle.std.specs.Prelude.{ℕ, List, [], ◌∷◌, get_or}
use Rattle.endian.specs.Number.{number_at}
use Rattle.endian.specs.Place.{Place, place}
use Rattle.endian.specs.declared.Order.{Order}
use Rattle.endian.specs.declared.Class.{Class}
use Rattle.endian.specs.declared.Class.TheVariants.{Elf32, Elf64}
use Rattle.file.specs.declared.FileHeader.{FileHeader}
use Rattle.file.specs.declared.Outline.{Outline}

-- the fields behind the identification
pub data Field : Type 0 where
  e_type : Field
  e_machine : Field
  e_version : Field
  e_entry : Field
  e_phoff : Field
  e_shoff : Field
  e_flags : Field
  e_ehsize : Field
  e_phentsize : Field
  e_phnum : Field
  e_shentsize : Field
  e_shnum : Field
  e_shstrndx : Field

-- ELF32: Half and Word; ELF64: Half, Word, and 8 bytes for an address or an offset
abbrev pub place_of : Class → Field → Place
place_of Elf32 e_type = place 16 2
place_of Elf32 e_machine = place 18 2
place_of Elf32 e_version = place 20 4
place_of Elf32 e_entry = place 24 4
place_of Elf32 e_phoff = place 28 4
place_of Elf32 e_shoff = place 32 4
place_of Elf32 e_flags = place 36 4
place_of Elf32 e_ehsize = place 40 2
place_of Elf32 e_phentsize = place 42 2
place_of Elf32 e_phnum = place 44 2
place_of Elf32 e_shentsize = place 46 2
place_of Elf32 e_shnum = place 48 2
place_of Elf32 e_shstrndx = place 50 2
place_of Elf64 e_type = place 16 2
place_of Elf64 e_machine = place 18 2
place_of Elf64 e_version = place 20 4
place_of Elf64 e_entry = place 24 8
place_of Elf64 e_phoff = place 32 8
place_of Elf64 e_shoff = place 40 8
place_of Elf64 e_flags = place 48 4
place_of Elf64 e_ehsize = place 52 2
place_of Elf64 e_phentsize = place 54 2
place_of Elf64 e_phnum = place 56 2
place_of Elf64 e_shentsize = place 58 2
place_of Elf64 e_shnum = place 60 2
place_of Elf64 e_shstrndx = place 62 2

-- every field once, in the order of the places
abbrev pub fields : List Field
fields = e_type ∷ e_machine ∷ e_version ∷ e_entry ∷ e_phoff ∷ e_shoff ∷ e_flags ∷ e_ehsize ∷ e_phentsize ∷ e_phnum ∷ e_shentsize ∷ e_shnum ∷ e_shstrndx ∷ []

-- the number in a field
abbrev pub field_of : Class → Order → List ℕ → Field → ℕ
field_of c e s f = number_at e (place_of c f).wide s (place_of c f).at

-- the header that the bytes s say, in the class c and the order e
unfoldable pub header_at : Class → Order → List ℕ → FileHeader
header_at c e s = record {
  class = c;
  order = e;
  osabi = get_or s 7 0;
  abiversion = get_or s 8 0;
  kind = field_of c e s e_type;
  machine = field_of c e s e_machine;
  version = field_of c e s e_version;
  entry = field_of c e s e_entry;
  phoff = field_of c e s e_phoff;
  shoff = field_of c e s e_shoff;
  flags = field_of c e s e_flags;
  ehsize = field_of c e s e_ehsize;
  phentsize = field_of c e s e_phentsize;
  phnum = field_of c e s e_phnum;
  shentsize = field_of c e s e_shentsize;
  shnum = field_of c e s e_shnum;
  shstrndx = field_of c e s e_shstrndx;
}

abbrev pub outline_of : FileHeader → Outline
outline_of h = record {
  kind = h.kind;
  entry = h.entry;
  phoff = h.phoff;
  shoff = h.shoff;
  phentsize = h.phentsize;
  phnum = h.phnum;
  shentsize = h.shentsize;
  shnum = h.shnum;
  shstrndx = h.shstrndx;
}
