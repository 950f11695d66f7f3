-- Two files that agree on the bytes of the identification and the header have the same identification and header.
-- Assumes nothing.
use Prim.Native.Nat.{ℕ, ◌+◌, ◌≤◌, ◌<◌}
use native.Mathlib.Omega.{arith}
use mathlib.Core.Path.{◌≡◌}
use mathlib.Core.List.{List}
use lib.ListN.{length, get_or}
use Rattle.endian.specs.Number.{number_at}
use Rattle.endian.specs.Place.{size_of, file_header}
use Rattle.endian.specs.declared.Order.{Order}
use Rattle.endian.specs.declared.Order.TheVariants.{Big}
use Rattle.endian.specs.declared.Class.{Class}
use Rattle.endian.specs.declared.Class.TheVariants.{Elf32, Elf64}
use Rattle.endian.proofs.Written.{number_same}
use Rattle.file.specs.Layout.{Field, header_at, field_of, place_of, e_type, e_machine, e_version, e_entry, e_phoff, e_shoff, e_flags, e_ehsize, e_phentsize, e_phnum, e_shentsize, e_shnum, e_shstrndx}
use Rattle.file.specs.Open.{ident_of}

pub header_same : (c : Class) (e : Order) (f g : List ℕ) → ((i : ℕ) → i < size_of file_header c → get_or f i 0 ≡ get_or g i 0) → header_at c e f ≡ header_at c e g
unfolding header_at
header_same c e f g s =
    λ i. record {
      class = c;
      order = e;
      osabi = s 7 (big c) i;
      abiversion = s 8 (bigger c) i;
      kind = at e_type i;
      machine = at e_machine i;
      version = at e_version i;
      entry = at e_entry i;
      phoff = at e_phoff i;
      shoff = at e_shoff i;
      flags = at e_flags i;
      ehsize = at e_ehsize i;
      phentsize = at e_phentsize i;
      phnum = at e_phnum i;
      shentsize = at e_shentsize i;
      shnum = at e_shnum i;
      shstrndx = at e_shstrndx i;
    }
  where
    big : (c : Class) → 7 < size_of file_header c
    big Elf32 = omega arith
    big Elf64 = omega arith

    bigger : (c : Class) → 8 < size_of file_header c
    bigger Elf32 = omega arith
    bigger Elf64 = omega arith

    fits : (c : Class) (x : Field) → (place_of c x).at + (place_of c x).wide ≤ size_of file_header c
    fits Elf32 e_type = omega arith
    fits Elf32 e_machine = omega arith
    fits Elf32 e_version = omega arith
    fits Elf32 e_entry = omega arith
    fits Elf32 e_phoff = omega arith
    fits Elf32 e_shoff = omega arith
    fits Elf32 e_flags = omega arith
    fits Elf32 e_ehsize = omega arith
    fits Elf32 e_phentsize = omega arith
    fits Elf32 e_phnum = omega arith
    fits Elf32 e_shentsize = omega arith
    fits Elf32 e_shnum = omega arith
    fits Elf32 e_shstrndx = omega arith
    fits Elf64 e_type = omega arith
    fits Elf64 e_machine = omega arith
    fits Elf64 e_version = omega arith
    fits Elf64 e_entry = omega arith
    fits Elf64 e_phoff = omega arith
    fits Elf64 e_shoff = omega arith
    fits Elf64 e_flags = omega arith
    fits Elf64 e_ehsize = omega arith
    fits Elf64 e_phentsize = omega arith
    fits Elf64 e_phnum = omega arith
    fits Elf64 e_shentsize = omega arith
    fits Elf64 e_shnum = omega arith
    fits Elf64 e_shstrndx = omega arith

    at : (x : Field) → field_of c e f x ≡ field_of c e g x
    at x = number_same e (place_of c x).wide f g (place_of c x).at (λ i a b. let h = fits c x in s i (omega arith))

pub ident_same : (f g : List ℕ) → length f ≡ length g → ((i : ℕ) → i < 16 → get_or f i 0 ≡ get_or g i 0) → ident_of f ≡ ident_of g
unfolding ident_of
ident_same f g l s =
    let n : number_at Big 4 f 0 ≡ number_at Big 4 g 0 = number_same Big 4 f g 0 (λ i a b. s i (omega arith)) in
    rw (l, n, s 6 (omega arith), s 4 (omega arith), s 5 (omega arith))
