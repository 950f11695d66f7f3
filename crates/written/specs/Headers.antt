-- What each of the three headers is written as, at the places where the readers look.
-- header_rows c h            the fields of a file header and their numbers, in the order of the places
-- ident_bytes c h            its identification: 16 bytes
-- header_bytes c h s         the bytes s with a file header at their start
-- section_rows, segment_rows  the same of a section header and of a program header
-- WroteHeader h s t r       what `write_file_header` does (`Wrote` of Rows): a header that is written is what `header_of` finds
-- WroteSection, WroteSegment     the same of the other two, in a class and an order
-- Assumes nothing.
use Rattle.std.specs.Prelude.{ℕ, ◌≡◌, List, [], ◌∷◌, length, Result, Ok, ⊤}
use Rattle.std.proofs.lemmas.List.Edits.{sets}
use Rattle.endian.specs.Place.{size_of, file_header, section_header, program_header}
use Rattle.endian.specs.declared.Order.{Order}
use Rattle.endian.specs.declared.Class.{Class}
use Rattle.endian.specs.declared.Class.TheVariants.{Elf32, Elf64}
use Rattle.endian.specs.declared.fault.Fault.{Fault}
use Rattle.endian.specs.Said.{class_byte, order_byte}
use Rattle.file.specs.declared.FileHeader.{FileHeader}
use Rattle.file.specs.Layout as file
use Rattle.file.specs.Open.{header_of}
use Rattle.section.specs.declared.SectionHeader.{SectionHeader}
use Rattle.section.specs.Layout as section
use Rattle.segment.specs.declared.ProgramHeader.{ProgramHeader}
use Rattle.segment.specs.Layout as segment
use Rattle.written.specs.Rows.{Row, row, write_all, write_fault, Wrote}

unfoldable pub header_rows : Class → FileHeader → List Row
header_rows c h =
    row (file.place_of c file.e_type) h.kind
    ∷ row (file.place_of c file.e_machine) h.machine
    ∷ row (file.place_of c file.e_version) h.version
    ∷ row (file.place_of c file.e_entry) h.entry
    ∷ row (file.place_of c file.e_phoff) h.phoff
    ∷ row (file.place_of c file.e_shoff) h.shoff
    ∷ row (file.place_of c file.e_flags) h.flags
    ∷ row (file.place_of c file.e_ehsize) h.ehsize
    ∷ row (file.place_of c file.e_phentsize) h.phentsize
    ∷ row (file.place_of c file.e_phnum) h.phnum
    ∷ row (file.place_of c file.e_shentsize) h.shentsize
    ∷ row (file.place_of c file.e_shnum) h.shnum
    ∷ row (file.place_of c file.e_shstrndx) h.shstrndx
    ∷ []

-- the magic number, class, order, version 1, the ABI and its version, and seven zeros
abbrev pub ident_bytes : Class → FileHeader → List ℕ
ident_bytes c h =
    0x7f ∷ 0x45 ∷ 0x4c ∷ 0x46 ∷ class_byte c ∷ order_byte h.order ∷ 1 ∷ h.osabi ∷ h.abiversion ∷ 0 ∷ 0 ∷ 0 ∷ 0 ∷ 0 ∷ 0 ∷ 0 ∷ []

unfoldable pub header_bytes : Class → FileHeader → List ℕ → List ℕ
header_bytes c h s = write_all h.order (header_rows c h) (sets s 0 (ident_bytes c h))

unfoldable pub section_rows : Class → SectionHeader → List Row
section_rows c h =
    row (section.place_of c section.sh_name) h.name
    ∷ row (section.place_of c section.sh_type) h.kind
    ∷ row (section.place_of c section.sh_flags) h.flags
    ∷ row (section.place_of c section.sh_addr) h.addr
    ∷ row (section.place_of c section.sh_offset) h.offset
    ∷ row (section.place_of c section.sh_size) h.size
    ∷ row (section.place_of c section.sh_link) h.link
    ∷ row (section.place_of c section.sh_info) h.info
    ∷ row (section.place_of c section.sh_addralign) h.addralign
    ∷ row (section.place_of c section.sh_entsize) h.entsize
    ∷ []

-- the flags stand second in a 64-bit entry and seventh in a 32-bit one
unfoldable pub segment_rows : Class → ProgramHeader → List Row
segment_rows Elf32 h =
    row (segment.place_of Elf32 segment.p_type) h.kind
    ∷ row (segment.place_of Elf32 segment.p_offset) h.offset
    ∷ row (segment.place_of Elf32 segment.p_vaddr) h.vaddr
    ∷ row (segment.place_of Elf32 segment.p_paddr) h.paddr
    ∷ row (segment.place_of Elf32 segment.p_filesz) h.filesz
    ∷ row (segment.place_of Elf32 segment.p_memsz) h.memsz
    ∷ row (segment.place_of Elf32 segment.p_flags) h.flags
    ∷ row (segment.place_of Elf32 segment.p_align) h.align
    ∷ []
segment_rows Elf64 h =
    row (segment.place_of Elf64 segment.p_type) h.kind
    ∷ row (segment.place_of Elf64 segment.p_flags) h.flags
    ∷ row (segment.place_of Elf64 segment.p_offset) h.offset
    ∷ row (segment.place_of Elf64 segment.p_vaddr) h.vaddr
    ∷ row (segment.place_of Elf64 segment.p_paddr) h.paddr
    ∷ row (segment.place_of Elf64 segment.p_filesz) h.filesz
    ∷ row (segment.place_of Elf64 segment.p_memsz) h.memsz
    ∷ row (segment.place_of Elf64 segment.p_align) h.align
    ∷ []

abbrev pub WroteHeader : FileHeader → List ℕ → List ℕ → Result ⊤ Fault → Type 0
WroteHeader h s t r =
    Wrote
    (write_fault (size_of file_header h.class) (header_rows h.class h) (length s))
    (header_bytes h.class h s)
    s
    t
    (header_of t ≡ Ok h)
    r

abbrev pub WroteSection : Class → Order → SectionHeader → List ℕ → List ℕ → Result ⊤ Fault → Type 0
WroteSection c e h s t r =
    Wrote (write_fault (size_of section_header c) (section_rows c h) (length s)) (write_all e (section_rows c h) s) s t (section.section_at c e t 0 ≡ h) r

abbrev pub WroteSegment : Class → Order → ProgramHeader → List ℕ → List ℕ → Result ⊤ Fault → Type 0
WroteSegment c e h s t r =
    Wrote (write_fault (size_of program_header c) (segment_rows c h) (length s)) (write_all e (segment_rows c h) s) s t (segment.segment_at c e t 0 ≡ h) r
