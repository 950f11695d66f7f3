-- Two lists of bytes that agree on an entry have the same entry there.
-- Assumes nothing.
use Prim.Native.Nat.{ℕ, ◌+◌, ◌≤◌}
use native.Mathlib.Omega.{arith}
use mathlib.Core.Path.{◌≡◌}
use mathlib.Core.List.{List}
use Rattle.endian.specs.Place.{field_at, size_of, program_header}
use Rattle.endian.specs.declared.Order.{Order}
use Rattle.endian.specs.declared.Class.{Class}
use Rattle.endian.specs.declared.Class.TheVariants.{Elf32, Elf64}
use Rattle.endian.proofs.Alike.{Within, field_same}
use Rattle.segment.specs.Layout.{Field, segment_at, place_of, p_type, p_flags, p_offset, p_vaddr, p_paddr, p_filesz, p_memsz, p_align}

pub segment_same : (c : Class) (e : Order) (f g : List ℕ) (o : ℕ) → Within f g o (size_of program_header c) → segment_at c e f o ≡ segment_at c e g o
unfolding segment_at
segment_same c e f g o s =
    λ i. record {
      kind = at p_type i;
      offset = at p_offset i;
      vaddr = at p_vaddr i;
      paddr = at p_paddr i;
      filesz = at p_filesz i;
      memsz = at p_memsz i;
      flags = at p_flags i;
      align = at p_align i;
    }
  where
    fits : (c : Class) (x : Field) → (place_of c x).at + (place_of c x).wide ≤ size_of program_header c
    fits Elf32 p_type = omega arith
    fits Elf32 p_flags = omega arith
    fits Elf32 p_offset = omega arith
    fits Elf32 p_vaddr = omega arith
    fits Elf32 p_paddr = omega arith
    fits Elf32 p_filesz = omega arith
    fits Elf32 p_memsz = omega arith
    fits Elf32 p_align = omega arith
    fits Elf64 p_type = omega arith
    fits Elf64 p_flags = omega arith
    fits Elf64 p_offset = omega arith
    fits Elf64 p_vaddr = omega arith
    fits Elf64 p_paddr = omega arith
    fits Elf64 p_filesz = omega arith
    fits Elf64 p_memsz = omega arith
    fits Elf64 p_align = omega arith

    at : (x : Field) → field_at e (place_of c x) f o ≡ field_at e (place_of c x) g o
    at x = field_same e (place_of c x) f g o (size_of program_header c) (fits c x) s
