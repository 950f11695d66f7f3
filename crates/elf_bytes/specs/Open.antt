-- What opening a file answers (document 01, section 4). Sections come before segments; the first test that fails decides.
-- zero_fault c len o             whether section header 0 can be read at o
-- zero_header c e s o            section header 0
-- section_count, segment_count   the number of entries: the file header's, or that of section header 0
-- table_fault len o n given size  n entries of size bytes at o, where the file header gives the entry size
-- table_at len o n given size    where they stand
-- sections_in, segments_in       where the tables stand: offset 0 means none
-- open_with s h                  the tables of the file s with the header h
-- open_of s                      what opening s answers
-- Tabled s t, Whole s elf        a table lies in the file; both tables of an opened file do
-- Assumes nothing.
use Rattle.std.specs.Prelude.{ℕ, ◌+◌, ◌*◌, ◌^◌, ◌≤◌, ◌<◌, cond, List, length, leb, eqb, Option, Some, None, IfSome, Result, Ok, Err, ⊤}
use Rattle.endian.specs.Range.{range_fault, answer, ◌>>=◌}
use Rattle.endian.specs.Place.{size_of, file_header, section_header, program_header}
use Rattle.endian.specs.declared.fault.Fault.{Fault}
use Rattle.endian.specs.declared.fault.Fault.TheVariants.{BadEntrySize, OutsideData, Overflow}
use Rattle.endian.specs.declared.Order.{Order}
use Rattle.endian.specs.declared.Class.{Class}
use Rattle.parse.specs.Entry.{range_of}
use Rattle.parse.specs.declared.Range.{Range}
use Rattle.section.specs.Layout.{section_at}
use Rattle.section.specs.declared.SectionHeader.{SectionHeader}
use Rattle.file.specs.Layout.{header_at}
use Rattle.file.specs.Open.{ident_of}
use Rattle.file.specs.declared.FileHeader.{FileHeader}
use Rattle.elf_bytes.specs.declared.Elf.{Elf}

-- 12 if the offset + 4 overflows 64 bits, 11 if the header is outside the file
unfoldable pub zero_fault : Class → ℕ → ℕ → Result ⊤ Fault
zero_fault c len o = cond (leb (2 ^ 64) (o + 4)) (Err Overflow) (cond (leb (o + size_of section_header c) len) (Ok tt) (Err OutsideData))

abbrev pub zero_header : Class → Order → List ℕ → ℕ → Result SectionHeader Fault
zero_header c e s o = answer (zero_fault c (length s) o) (section_at c e s o)

-- if the section count is 0, the count is the size field of section header 0
abbrev pub section_count : Class → Order → List ℕ → ℕ → ℕ → Result ℕ Fault
section_count c e s o n = cond (eqb n 0) (zero_header c e s o >>= λ zero. Ok zero.size) (Ok n)

-- if the segment count is ffff hex, the count is the info field of section header 0
abbrev pub segment_count : Class → Order → List ℕ → ℕ → ℕ → Result ℕ Fault
segment_count c e s o n = cond (eqb n 65535) (zero_header c e s o >>= λ zero. Ok zero.info) (Ok n)

-- the entry size must be exactly the ABI's (7); the whole table must lie in the file (12, 11)
unfoldable pub table_fault : ℕ → ℕ → ℕ → ℕ → ℕ → Result ⊤ Fault
table_fault len o n given size =
    cond (eqb given size) (cond (leb (2 ^ 64) (n * size)) (Err Overflow) (range_fault len o (n * size))) (Err BadEntrySize)

abbrev pub table_at : ℕ → ℕ → ℕ → ℕ → ℕ → Result Range Fault
table_at len o n given size = answer (table_fault len o n given size) (range_of o (n * size))

-- offset 0 means none, whatever the other fields say
unfoldable pub sections_in : Class → Order → List ℕ → ℕ → ℕ → ℕ → Result (Option Range) Fault
sections_in c e s o n given =
    cond (eqb o 0) (Ok None) (do
      count ← section_count c e s o n
      table ← table_at (length s) o count given (size_of section_header c)
      Ok (Some table))

unfoldable pub segments_in : Class → Order → List ℕ → ℕ → ℕ → ℕ → ℕ → Result (Option Range) Fault
segments_in c e s z o n given =
    cond (eqb o 0) (Ok None) (do
      count ← segment_count c e s z n
      table ← table_at (length s) o count given (size_of program_header c)
      Ok (Some table))

abbrev pub elf_of : FileHeader → Option Range → Option Range → Elf
elf_of h a b = record {
  class = h.class;
  order = h.order;
  kind = h.kind;
  entry = h.entry;
  names = h.shstrndx;
  sections = a;
  segments = b;
}

unfoldable pub open_with : List ℕ → FileHeader → Result Elf Fault
open_with s h = do
  sections ← sections_in h.class h.order s h.shoff h.shnum h.shentsize
  segments ← segments_in h.class h.order s h.shoff h.phoff h.phnum h.phentsize
  Ok (elf_of h sections segments)

unfoldable pub open_of : List ℕ → Result Elf Fault
open_of s = do
  i ← ident_of s
  cond (leb (size_of file_header i.class) (length s)) (open_with s (header_at i.class i.order s)) (Err OutsideData)

-- ---- what holds of every opened file

abbrev pub Tabled : List ℕ → Option Range → Type 0
Tabled s t = IfSome t (λ r. (r.from ≤ r.to) × (r.to ≤ length s))

pub record Whole (s : List ℕ) (elf : Elf) : Type 0 where
  pub sections : Tabled s elf.sections
  pub segments : Tabled s elf.segments
