-- What is written reads back as itself: a file header is what `header_of` finds, and a section header or a program header is the entry at 0.
-- Assumes nothing.
use Prim.Native.Nat.{ℕ, ◌+◌, ◌<◌, ◌≤◌}
use native.Mathlib.Omega.{arith}
use mathlib.Core.Path.{◌≡◌, refl, sym, ap, ◌∙◌}
use mathlib.Core.List.{List}
use lib.ListN.{length, get_or}
use lib.Seq.{sets, length-sets}
use borrow.Author.Tests.{le-leb, eq-eqb}
use Rattle.endian.specs.Number.{number_at}
use Rattle.endian.specs.declared.Order.{Order}
use Rattle.endian.specs.declared.Order.TheVariants.{Little, Big}
use Rattle.endian.proofs.Written.{number_same}
use Rattle.endian.specs.declared.Class.{Class}
use Rattle.endian.specs.declared.Class.TheVariants.{Elf32, Elf64}
use Rattle.file.specs.declared.FileHeader.{FileHeader}
use Rattle.std.specs.Prelude.{Ok}
use Rattle.endian.specs.Place.{size_of, file_header, section_header, program_header}
use Rattle.file.specs.Layout.{header_at}
use Rattle.file.specs.Open.{ident_of, header_of}
use Rattle.section.specs.declared.SectionHeader.{SectionHeader}
use Rattle.section.specs.Layout.{section_at}
use Rattle.segment.specs.declared.ProgramHeader.{ProgramHeader}
use Rattle.segment.specs.Layout.{segment_at}
use Rattle.written.specs.Rows.{write_all, Fitting}
use Rattle.written.specs.Headers.{header_bytes, header_rows, section_rows, segment_rows, ident_bytes}
use Rattle.endian.specs.Said.{class_byte, order_byte}
use Rattle.written.proofs.Rows.{Ordered, AllRead, all_read, byte_kept, length_all, get_d_sets_in}

in_order : (c : Class) (h : FileHeader) → Ordered 16 (header_rows c h) (size_of file_header c)
unfolding header_rows
in_order Elf32 h = omega arith
in_order Elf64 h = omega arith

small : (c : Class) → 16 ≤ size_of file_header c
small Elf32 = omega arith
small Elf64 = omega arith

module _ (c : Class) (h : FileHeader) (s : List ℕ) (room : size_of file_header c ≤ length s) where
  as_long : length (header_bytes c h s) ≡ length s
  unfolding header_bytes
  as_long = length_all h.order (header_rows c h) (sets s 0 (ident_bytes c h)) ∙ length-sets s 0 (ident_bytes c h)

  -- the identification's bytes
  byte : (k : ℕ) → k < 16 → get_or (header_bytes c h s) k 0 ≡ get_or (ident_bytes c h) k 0
  unfolding header_bytes
  byte k l =
      let j = small c in
      let e : 0 + k ≡ k = omega arith in
      byte_kept h.order (header_rows c h) 16 (size_of file_header c) k (sets s 0 (ident_bytes c h)) (in_order c h) l
      ∙ (rw e at (get_d_sets_in (ident_bytes c h) s 0 k (omega arith) l))

  magic : number_at Big 4 (header_bytes c h s) 0 ≡ 0x7f454c46
  unfolding number_at
  magic = number_same Big 4 (header_bytes c h s) (ident_bytes c h) 0 (λ k a b. byte k (omega arith))

  fields : Fitting (header_rows c h) → AllRead h.order (header_rows c h) (header_bytes c h s)
  unfolding header_bytes
  fields f = all_read h.order (header_rows c h) 16 (size_of file_header c) (sets s 0 (ident_bytes c h)) (in_order c h) (rw length-sets room) f

identified : (c : Class) (e : Order) (t : List ℕ) → 16 ≤ length t → number_at Big 4 t 0 ≡ 0x7f454c46
    → get_or t 6 0 ≡ 1 → get_or t 4 0 ≡ class_byte c → get_or t 5 0 ≡ order_byte e → ident_of t ≡ Ok (record { class = c; order = e })
unfolding ident_of
identified Elf32 Little t l m v p q = rw (le-leb 16 _ l, eq-eqb _ _ m, v, p, q)
identified Elf32 Big t l m v p q = rw (le-leb 16 _ l, eq-eqb _ _ m, v, p, q)
identified Elf64 Little t l m v p q = rw (le-leb 16 _ l, eq-eqb _ _ m, v, p, q)
identified Elf64 Big t l m v p q = rw (le-leb 16 _ l, eq-eqb _ _ m, v, p, q)

-- a header whose fields the bytes have is the header of the bytes
same : (c : Class) (h : FileHeader) (t : List ℕ) → h.class ≡ c → h.osabi ≡ get_or t 7 0 → h.abiversion ≡ get_or t 8 0
    → AllRead h.order (header_rows c h) t → h ≡ header_at c h.order t
unfolding header_at header_rows
same c h t k a b f = λ i. record { class = k i; order = h.order; osabi = a i; abiversion = b i; kind = f.0 i; machine = f.1.0 i; version = f.1.1.0 i; entry = f.1.1.1.0 i; phoff = f.1.1.1.1.0 i; shoff = f.1.1.1.1.1.0 i; flags = f.1.1.1.1.1.1.0 i; ehsize = f.1.1.1.1.1.1.1.0 i; phentsize = f.1.1.1.1.1.1.1.1.0 i; phnum = f.1.1.1.1.1.1.1.1.1.0 i; shentsize = f.1.1.1.1.1.1.1.1.1.1.0 i; shnum = f.1.1.1.1.1.1.1.1.1.1.1.0 i; shstrndx = f.1.1.1.1.1.1.1.1.1.1.1.1.0 i }

pub header_reads_back : (h : FileHeader) (s : List ℕ) → Fitting (header_rows h.class h) → size_of file_header h.class ≤ length s
    → header_of (header_bytes h.class h s) ≡ Ok h
unfolding header_of
header_reads_back h s f room =
    let c = h.class in
    let t = header_bytes c h s in
    let j = small c in
    let n = as_long c h s room in
    let b = byte c h s room in
    rw (
      identified c h.order t (omega arith) (magic c h s room) (b 6 (omega arith)) (b 4 (omega arith)) (b 5 (omega arith)),
      le-leb (size_of file_header c) (length t) (omega arith),
    )
    (ap Ok (sym (same c h t refl (sym (b 7 (omega arith))) (sym (b 8 (omega arith))) (fields c h s room f))))

-- an entry at 0 whose fields the bytes have is the entry of the bytes
same_section : (c : Class) (e : Order) (h : SectionHeader) (t : List ℕ) → AllRead e (section_rows c h) t → h ≡ section_at c e t 0
unfolding section_at section_rows
same_section Elf32 e h t f = λ i. record { name = f.0 i; kind = f.1.0 i; flags = f.1.1.0 i; addr = f.1.1.1.0 i; offset = f.1.1.1.1.0 i; size = f.1.1.1.1.1.0 i; link = f.1.1.1.1.1.1.0 i; info = f.1.1.1.1.1.1.1.0 i; addralign = f.1.1.1.1.1.1.1.1.0 i; entsize = f.1.1.1.1.1.1.1.1.1.0 i }
same_section Elf64 e h t f = λ i. record { name = f.0 i; kind = f.1.0 i; flags = f.1.1.0 i; addr = f.1.1.1.0 i; offset = f.1.1.1.1.0 i; size = f.1.1.1.1.1.0 i; link = f.1.1.1.1.1.1.0 i; info = f.1.1.1.1.1.1.1.0 i; addralign = f.1.1.1.1.1.1.1.1.0 i; entsize = f.1.1.1.1.1.1.1.1.1.0 i }

section_order : (c : Class) (h : SectionHeader) → Ordered 0 (section_rows c h) (size_of section_header c)
unfolding section_rows
section_order Elf32 h = omega arith
section_order Elf64 h = omega arith

pub section_reads_back : (c : Class) (e : Order) (h : SectionHeader) (s : List ℕ) → Fitting (section_rows c h) → size_of section_header c ≤ length s
    → section_at c e (write_all e (section_rows c h) s) 0 ≡ h
section_reads_back c e h s f room =
    sym (same_section c e h _ (all_read e (section_rows c h) 0 (size_of section_header c) s (section_order c h) room f))

same_segment : (c : Class) (e : Order) (h : ProgramHeader) (t : List ℕ) → AllRead e (segment_rows c h) t → h ≡ segment_at c e t 0
unfolding segment_at segment_rows
same_segment Elf32 e h t f = λ i. record { kind = f.0 i; offset = f.1.0 i; vaddr = f.1.1.0 i; paddr = f.1.1.1.0 i; filesz = f.1.1.1.1.0 i; memsz = f.1.1.1.1.1.0 i; flags = f.1.1.1.1.1.1.0 i; align = f.1.1.1.1.1.1.1.0 i }
same_segment Elf64 e h t f = λ i. record { kind = f.0 i; flags = f.1.0 i; offset = f.1.1.0 i; vaddr = f.1.1.1.0 i; paddr = f.1.1.1.1.0 i; filesz = f.1.1.1.1.1.0 i; memsz = f.1.1.1.1.1.1.0 i; align = f.1.1.1.1.1.1.1.0 i }

segment_order : (c : Class) (h : ProgramHeader) → Ordered 0 (segment_rows c h) (size_of program_header c)
unfolding segment_rows
segment_order Elf32 h = omega arith
segment_order Elf64 h = omega arith

pub segment_reads_back : (c : Class) (e : Order) (h : ProgramHeader) (s : List ℕ) → Fitting (segment_rows c h) → size_of program_header c ≤ length s
    → segment_at c e (write_all e (segment_rows c h) s) 0 ≡ h
segment_reads_back c e h s f room =
    sym (same_segment c e h _ (all_read e (segment_rows c h) 0 (size_of program_header c) s (segment_order c h) room f))
