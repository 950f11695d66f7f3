-- What a section or a segment holds (document 01, section 5).
-- header_from size at s elf t i  header i of a table of an opened file
-- section_in, segment_in       header i of an opened file; section_of, segment_of of a file's bytes
-- data_of len kind o n            data of a section: type 8 has none
-- typed_of len want kind o n      as strings, rel, rela: the type must be the one wanted (8)
-- dynamic_in, dynamic_of         as dynamic: type 6 (8), the entry size (7)
-- asked_of x                     what a question of symbols gives, from a section's extent
-- extent_at c e s o              the extent of the section header at o; extent_in s elf i  of section header i
-- symbols_with, symbols_in, symbols_of  as symbols, with strings from the section that the link field names
-- Assumes nothing.
use Rattle.std.specs.Prelude.{ℕ, ◌*◌, cond, List, length, eqb, Option, Some, None, Result, Ok, Err}
use Rattle.endian.specs.Range.{answer, ◌>>=◌}
use Rattle.endian.specs.Place.{size_of, section_header, program_header, symbol, dynamic}
use Rattle.endian.specs.declared.fault.Fault.{Fault}
use Rattle.endian.specs.declared.fault.Fault.TheVariants.{BadOffset, BadEntrySize, BadSectionType}
use Rattle.endian.specs.declared.Class.{Class}
use Rattle.endian.specs.declared.Order.{Order}
use Rattle.parse.specs.Entry.{entry_fault, range_of, range_at, part_of}
use Rattle.parse.specs.declared.Range.{Range}
use Rattle.section.specs.Layout.{section_at, extent_of}
use Rattle.section.specs.declared.Extent.{Extent}
use Rattle.section.specs.declared.SectionHeader.{SectionHeader}
use Rattle.segment.specs.Layout.{segment_at}
use Rattle.segment.specs.declared.ProgramHeader.{ProgramHeader}
use Rattle.elf_bytes.specs.Open.{open_of}
use Rattle.elf_bytes.specs.declared.Elf.{Elf}
use Rattle.contents.specs.declared.SymbolTable.{SymbolTable}
use Rattle.contents.specs.declared.Asked.{Asked}

-- ---- headers by number: without a table as with an empty one

abbrev pub header_from : {E : Type 0} → (Class → ℕ) → (Class → Order → List ℕ → ℕ → E) → List ℕ → Elf → Option Range → ℕ → Result E Fault
header_from size at s elf None i = Err BadOffset
header_from size at s elf (Some r) i =
    answer (entry_fault (size elf.class) (length (part_of s r)) i) (at elf.class elf.order (part_of s r) (i * size elf.class))

unfoldable pub section_in : List ℕ → Elf → ℕ → Result SectionHeader Fault
section_in s elf i = header_from (size_of section_header) section_at s elf elf.sections i

unfoldable pub section_of : List ℕ → ℕ → Result SectionHeader Fault
section_of s i = do
  elf ← open_of s
  section_in s elf i

unfoldable pub segment_in : List ℕ → Elf → ℕ → Result ProgramHeader Fault
segment_in s elf i = header_from (size_of program_header) segment_at s elf elf.segments i

unfoldable pub segment_of : List ℕ → ℕ → Result ProgramHeader Fault
segment_of s i = do
  elf ← open_of s
  segment_in s elf i

-- ---- bytes

unfoldable pub data_of : ℕ → ℕ → ℕ → ℕ → Result Range Fault
data_of len kind o n = cond (eqb kind 8) (Ok (range_of 0 0)) (range_at len o n)

unfoldable pub typed_of : ℕ → ℕ → ℕ → ℕ → ℕ → Result Range Fault
typed_of len want kind o n = cond (eqb kind want) (data_of len kind o n) (Err BadSectionType)

unfoldable pub dynamic_in : Class → ℕ → ℕ → ℕ → ℕ → ℕ → Result Range Fault
dynamic_in c len kind o n entsize =
    cond (eqb kind 6) (cond (eqb entsize (size_of dynamic c)) (data_of len kind o n) (Err BadEntrySize)) (Err BadSectionType)

unfoldable pub dynamic_of : List ℕ → ℕ → ℕ → ℕ → ℕ → Result Range Fault
dynamic_of s kind o n entsize = do
  elf ← open_of s
  dynamic_in elf.class (length s) kind o n entsize

-- ---- symbols: the linked section's header (5, 12, 11), the entry size (7), the symbols' bytes, the strings' bytes (12, 11)

abbrev pub asked_of : Extent → Asked
asked_of x = record { offset = x.offset; size = x.size; link = x.link; entsize = x.entsize }

abbrev pub extent_at : Class → Order → List ℕ → ℕ → Extent
extent_at c e s o = extent_of (section_at c e s o)

unfoldable pub symbols_with : Class → ℕ → Asked → Extent → Result SymbolTable Fault
symbols_with c len a strings =
    cond (eqb a.entsize (size_of symbol c))
    (do
      symbols ← range_at len a.offset a.size
      texts ← range_at len strings.offset strings.size
      Ok (record { symbols = symbols; strings = texts })
    )
    (Err BadEntrySize)

unfoldable pub extent_in : List ℕ → Elf → ℕ → Result Extent Fault
extent_in s elf i = header_from (size_of section_header) extent_at s elf elf.sections i

unfoldable pub symbols_in : List ℕ → Elf → Asked → Result SymbolTable Fault
symbols_in s elf a = do
  strings ← extent_in s elf a.link
  symbols_with elf.class (length s) a strings

unfoldable pub symbols_of : List ℕ → ℕ → ℕ → ℕ → ℕ → Result SymbolTable Fault
symbols_of s o n link entsize = do
  elf ← open_of s
  symbols_in s elf (record { offset = o; size = n; link = link; entsize = entsize })
