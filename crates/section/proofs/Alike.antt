-- Two lists of bytes that agree on a section header have the same counts there: of sections and of segments, where a file has too many.
-- Assumes nothing.
use Prim.Native.Nat.{ℕ}
use native.Mathlib.Omega.{arith}
use mathlib.Core.Path.{◌≡◌}
use mathlib.Core.List.{List}
use Rattle.endian.specs.Place.{size_of, section_header}
use Rattle.endian.specs.declared.Order.{Order}
use Rattle.endian.specs.declared.Class.{Class}
use Rattle.endian.specs.declared.Class.TheVariants.{Elf32, Elf64}
use Rattle.endian.proofs.Alike.{Within, field_same}
use Rattle.section.specs.Layout.{section_at, place_of, sh_size, sh_info}

-- the size and the info field of a section header: the counts of a file that has too many
pub size_same : (c : Class) (e : Order) (f g : List ℕ) (o : ℕ) → Within f g o (size_of section_header c) → (section_at c e f o).size ≡ (section_at c e g o).size
unfolding section_at
size_same Elf32 e f g o s = field_same e (place_of Elf32 sh_size) f g o 40 (omega arith) s
size_same Elf64 e f g o s = field_same e (place_of Elf64 sh_size) f g o 64 (omega arith) s

pub info_same : (c : Class) (e : Order) (f g : List ℕ) (o : ℕ) → Within f g o (size_of section_header c) → (section_at c e f o).info ≡ (section_at c e g o).info
unfolding section_at
info_same Elf32 e f g o s = field_same e (place_of Elf32 sh_info) f g o 40 (omega arith) s
info_same Elf64 e f g o s = field_same e (place_of Elf64 sh_info) f g o 64 (omega arith) s
