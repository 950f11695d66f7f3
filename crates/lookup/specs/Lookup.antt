-- What is found in a whole file (document 01, section 5).
-- maybe o f                    none where there is nothing to ask of, else what is answered of it
-- name_index                   which section holds the names
-- names_in, names_of           the table of section names of an opened file, of a file's bytes
-- named e t size strs name i  section i of the table t has that name, whole and as UTF-8
-- first_named                 the first section so named
-- by_name_in, by_name_of      the search by name
-- first_in                    the first entry of a kind of a table that may be absent
-- first_section, first_segment  the first section, the first segment of a type
-- symbol_table_in, symbol_table_of  the symbols of the first section of a type
-- dynamic_in, dynamic_of      the dynamic entries: of the first section of type 6, or, only without sections, of the first segment of type 2
-- Assumes nothing.
use Rattle.std.specs.Prelude.{ℕ, ◌*◌, ◌/◌, Bool, cond, ◌&&◌, List, length, eqb, Option, Some, None, is_ok, Result, Ok, Err}
use Rattle.endian.specs.Range.{◌>>=◌}
use Rattle.endian.specs.Number.{number_at}
use Rattle.endian.specs.Place.{size_of, section_header, program_header}
use Rattle.endian.specs.declared.fault.Fault.{Fault}
use Rattle.endian.specs.declared.Class.{Class}
use Rattle.endian.specs.declared.Order.{Order}
use Rattle.parse.specs.Entry.{range_at, part_of}
use Rattle.parse.specs.First.{first_from, first_kind}
use Rattle.parse.specs.declared.Range.{Range}
use Rattle.string_table.specs.Text.{text_at, same_bytes}
use Rattle.string_table.specs.Utf8.{utf8_fault}
use Rattle.elf_bytes.specs.Open.{open_of}
use Rattle.elf_bytes.specs.declared.Elf.{Elf}
use Rattle.contents.specs.Contents.{section_in, extent_in, segment_in, symbols_in, asked_of}
use Rattle.contents.specs.Contents as contents
use Rattle.contents.specs.declared.SymbolTable.{SymbolTable}

abbrev pub maybe : {A B : Type 0} → Option A → (A → Result B Fault) → Result (Option B) Fault
maybe None f = Ok None
maybe (Some a) f = f a >>= λ b. Ok (Some b)

-- ---- names of sections

-- index ffff hex means the link field of section header 0
unfoldable pub name_index : List ℕ → Elf → Result ℕ Fault
name_index s elf = cond (eqb elf.names 65535) (section_in s elf 0 >>= λ zero. Ok zero.link) (Ok elf.names)

-- offset and size are taken as they stand, whatever the section's type and flags
abbrev pub names_told : List ℕ → Elf → Result Range Fault
names_told s elf = do
  i ← name_index s elf
  h ← section_in s elf i
  range_at (length s) h.offset h.size

-- none if there are no sections or the index is 0
abbrev pub names_with : List ℕ → Elf → Option Range → Result (Option Range) Fault
names_with s elf None = Ok None
names_with s elf (Some r) = cond (eqb elf.names 0) (Ok None) (names_told s elf >>= λ t. Ok (Some t))

unfoldable pub names_in : List ℕ → Elf → Result (Option Range) Fault
names_in s elf = names_with s elf elf.sections

unfoldable pub names_of : List ℕ → Result (Option Range) Fault
names_of s = do
  elf ← open_of s
  names_in s elf

-- ---- a section by its name: whole names are compared, a section whose name can't be read is skipped, the first is taken

unfoldable pub text_named : List ℕ → ℕ → List ℕ → Bool
text_named strs o name = is_ok (utf8_fault strs o) && same_bytes (text_at strs o) name

-- the name's offset stands first in a section header
unfoldable pub named : Order → List ℕ → ℕ → List ℕ → List ℕ → ℕ → Bool
named e t size strs name i = text_named strs (number_at e 4 t (i * size)) name

unfoldable pub first_named : Order → List ℕ → ℕ → List ℕ → List ℕ → Option ℕ
first_named e t size strs name = first_from (named e t size strs name) (length t / size) 0

abbrev pub by_name_with : List ℕ → Elf → List ℕ → Option Range → Option Range → Option ℕ
by_name_with s elf name None t = None
by_name_with s elf name (Some n) None = None
by_name_with s elf name (Some n) (Some r) = first_named elf.order (part_of s r) (size_of section_header elf.class) (part_of s n) name

unfoldable pub by_name_in : List ℕ → Elf → List ℕ → Result (Option ℕ) Fault
by_name_in s elf name = do
  names ← names_in s elf
  Ok (by_name_with s elf name names elf.sections)

unfoldable pub by_name_of : List ℕ → List ℕ → Result (Option ℕ) Fault
by_name_of s name = do
  elf ← open_of s
  by_name_in s elf name

-- ---- the first of a type: a section's stands at 4, a segment's at 0

abbrev pub first_in : (Class → ℕ) → List ℕ → Elf → ℕ → ℕ → Option Range → Option ℕ
first_in size s elf at kind None = None
first_in size s elf at kind (Some r) = first_kind elf.order (part_of s r) (size elf.class) at kind

unfoldable pub first_section : List ℕ → Elf → ℕ → Option ℕ
first_section s elf kind = first_in (size_of section_header) s elf 4 kind elf.sections

unfoldable pub first_segment : List ℕ → Elf → ℕ → Option ℕ
first_segment s elf kind = first_in (size_of program_header) s elf 0 kind elf.segments

-- ---- symbol tables: the first section of the type, with its strings; none if there is none

unfoldable pub symbols_at : List ℕ → Elf → ℕ → Result SymbolTable Fault
symbols_at s elf i = do
  x ← extent_in s elf i
  symbols_in s elf (asked_of x)

unfoldable pub symbol_table_in : List ℕ → Elf → ℕ → Result (Option SymbolTable) Fault
symbol_table_in s elf kind = maybe (first_section s elf kind) (symbols_at s elf)

unfoldable pub symbol_table_of : List ℕ → ℕ → Result (Option SymbolTable) Fault
symbol_table_of s kind = do
  elf ← open_of s
  symbol_table_in s elf kind

-- ---- dynamic entries

unfoldable pub dynamic_at : List ℕ → Elf → ℕ → Result Range Fault
dynamic_at s elf i = do
  h ← section_in s elf i
  contents.dynamic_in elf.class (length s) h.kind h.offset h.size h.entsize

unfoldable pub segment_bytes : List ℕ → Elf → ℕ → Result Range Fault
segment_bytes s elf i = do
  h ← segment_in s elf i
  range_at (length s) h.offset h.filesz

-- the dynamic entries of the first segment of type 2
unfoldable pub dynamic_segment : List ℕ → Elf → Result (Option Range) Fault
dynamic_segment s elf = maybe (first_segment s elf 2) (segment_bytes s elf)

abbrev pub dynamic_with : List ℕ → Elf → Option Range → Result (Option Range) Fault
dynamic_with s elf None = dynamic_segment s elf
dynamic_with s elf (Some r) = maybe (first_section s elf 6) (dynamic_at s elf)

unfoldable pub dynamic_in : List ℕ → Elf → Result (Option Range) Fault
dynamic_in s elf = dynamic_with s elf elf.sections

unfoldable pub dynamic_of : List ℕ → Result (Option Range) Fault
dynamic_of s = do
  elf ← open_of s
  dynamic_in s elf
