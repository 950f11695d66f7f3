-- A header fits its class where its wide numbers do: the narrow ones fit their fields anyway, and in a 64-bit file all do.
-- Assumes nothing.
use Rattle.std.proofs.Common.{◌≡◌, ◌^◌, [], ◌∷◌}
use mathlib.Core.Path.{sym}
use borrow.Author.Tests.{lt-ltb}
use Rattle.endian.specs.declared.Class.{Class}
use Rattle.endian.specs.declared.Class.TheVariants.{Elf32, Elf64}
use Rattle.file.specs.declared.FileHeader.{FileHeader}
use Rattle.section.specs.declared.SectionHeader.{SectionHeader}
use Rattle.segment.specs.declared.ProgramHeader.{ProgramHeader}
use Rattle.written.specs.Rows.{Fitting, fits, all_fit}
use Rattle.written.specs.Headers.{header_rows, section_rows, segment_rows}
use Rattle.written.proofs.Rows.{fits_all}

pub section_fits : (c : Class) (h : SectionHeader) → Fitting (section_rows Elf64 h)
    → all_fit c (h.flags ∷ h.addr ∷ h.offset ∷ h.size ∷ h.addralign ∷ h.entsize ∷ []) ≡ fits (section_rows c h)
unfolding section_rows
section_fits Elf32 h f =
    rw (
      lt-ltb h.name (256 ^ 4) f.0,
      lt-ltb h.kind (256 ^ 4) f.1.0,
      lt-ltb h.link (256 ^ 4) f.1.1.1.1.1.1.0,
      lt-ltb h.info (256 ^ 4) f.1.1.1.1.1.1.1.0,
    )
section_fits Elf64 h f = sym (fits_all (section_rows Elf64 h) f)

pub segment_fits : (c : Class) (h : ProgramHeader) → Fitting (segment_rows Elf64 h)
    → all_fit c (h.offset ∷ h.vaddr ∷ h.paddr ∷ h.filesz ∷ h.memsz ∷ h.align ∷ []) ≡ fits (segment_rows c h)
unfolding segment_rows
segment_fits Elf32 h f = rw (lt-ltb h.kind (256 ^ 4) f.0, lt-ltb h.flags (256 ^ 4) f.1.0)
segment_fits Elf64 h f = sym (fits_all (segment_rows Elf64 h) f)

pub header_fits : (c : Class) (h : FileHeader) → Fitting (header_rows Elf64 h)
    → all_fit c (h.entry ∷ h.phoff ∷ h.shoff ∷ []) ≡ fits (header_rows c h)
unfolding header_rows
header_fits Elf32 h f =
    let g = f.1.1.1.1.1.1 in
    rw (
      lt-ltb h.kind (256 ^ 2) f.0,
      lt-ltb h.machine (256 ^ 2) f.1.0,
      lt-ltb h.version (256 ^ 4) f.1.1.0,
      lt-ltb h.flags (256 ^ 4) g.0,
      lt-ltb h.ehsize (256 ^ 2) g.1.0,
      lt-ltb h.phentsize (256 ^ 2) g.1.1.0,
      lt-ltb h.phnum (256 ^ 2) g.1.1.1.0,
      lt-ltb h.shentsize (256 ^ 2) g.1.1.1.1.0,
      lt-ltb h.shnum (256 ^ 2) g.1.1.1.1.1.0,
      lt-ltb h.shstrndx (256 ^ 2) g.1.1.1.1.1.1.0,
    )
header_fits Elf64 h f = sym (fits_all (header_rows Elf64 h) f)
