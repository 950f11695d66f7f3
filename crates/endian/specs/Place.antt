-- Places of fields, and the sizes of the ABI's fixed-size entries.
-- Place, place o w      an offset in an entry and a width
-- word c                the bytes of a number as wide as the class
-- field_at e p s o       the number at the place p of the entry that starts at o
-- Entry, size_of         the kinds of entries and their sizes in both classes (document 01, section 2)
-- Fills a ps n          the places ps follow one another without a gap, from a up to n
-- Assumes nothing.
use Rattle.std.specs.Prelude.{ℕ, ◌+◌, ◌≡◌, List, [], ◌∷◌}
use Rattle.endian.specs.Number.{number_at}
use Rattle.endian.specs.declared.Order.{Order}
use Rattle.endian.specs.declared.Class.{Class}
use Rattle.endian.specs.declared.Class.TheVariants.{Elf32, Elf64}

pub record Place : Type 0 where
  pub at : ℕ
  pub wide : ℕ

abbrev pub place : ℕ → ℕ → Place
place o w = record { at = o; wide = w }

abbrev pub field_at : Order → Place → List ℕ → ℕ → ℕ
field_at e p s o = number_at e p.wide s (o + p.at)

-- the bytes of a number that is as wide as the class
abbrev pub word : Class → ℕ
word Elf32 = 4
word Elf64 = 8

pub data Entry : Type 0 where
  file_header : Entry
  program_header : Entry
  section_header : Entry
  symbol : Entry
  rel : Entry
  rela : Entry
  dynamic : Entry

abbrev pub size_of : Entry → Class → ℕ
size_of file_header Elf32 = 52
size_of file_header Elf64 = 64
size_of program_header Elf32 = 32
size_of program_header Elf64 = 56
size_of section_header Elf32 = 40
size_of section_header Elf64 = 64
size_of symbol Elf32 = 16
size_of symbol Elf64 = 24
size_of rel Elf32 = 8
size_of rel Elf64 = 16
size_of rela Elf32 = 12
size_of rela Elf64 = 24
size_of dynamic Elf32 = 8
size_of dynamic Elf64 = 16

abbrev pub Fills : ℕ → List Place → ℕ → Type 0
Fills a [] n = a ≡ n
Fills a (p ∷ ps) n = (p.at ≡ a) × Fills (a + p.wide) ps n
