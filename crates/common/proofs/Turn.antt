-- One turn of the walk over the sections of an opened file whose section headers are the table t.
-- Assumes nothing.
use Rattle.std.proofs.Common.{◌≡◌, ℕ, ◌+◌, ◌-◌, ◌*◌, ◌^◌, ◌≤◌, ◌<◌, List, length, drop, Bool, true, false, cond, ◌||◌, eqb, Option, Some, None, Result, Ok, refl, sym, ap, ◌∙◌, length-drop, arith}
use mathlib.Core.Bool.{or-true}
use lib.Seq.{length-take-le}
use borrow.Author.Tests.{le-leb, ne_eqb}
use Rattle.std.specs.Prelude.{⊤}
use Rattle.endian.specs.Number.{number_at}
use Rattle.endian.specs.Range.{answer}
use Rattle.endian.specs.Place.{size_of, section_header}
use Rattle.endian.specs.declared.fault.Fault.{Fault}
use Rattle.endian.specs.declared.Class.{Class}
use Rattle.endian.specs.declared.Class.TheVariants.{Elf32, Elf64}
use Rattle.parse.specs.Entry.{count_of, part_of}
use Rattle.parse.specs.declared.Range.{Range}
use Rattle.parse.proofs.Laws.{inside, readable}
use Rattle.section.specs.Layout.{section_at, extent_of}
use Rattle.section.specs.declared.Extent.{Extent}
use Rattle.section.specs.declared.SectionHeader.{SectionHeader}
use Rattle.section.proofs.Same.{kind_at}
use Rattle.elf_bytes.specs.declared.Elf.{Elf}
use Rattle.contents.specs.Contents.{header_from, section_in}
use Rattle.common.specs.Common.{no_common, sections_of, adding, symtab_told, dynsym_told, dynamic_told, hash_told, collected, step_of, below_of}
use Rattle.common.specs.declared.Common.{Common}

-- type and name stand in front of every header
pub entry_wide : (c : Class) → 8 ≤ size_of section_header c
entry_wide Elf32 = omega arith
entry_wide Elf64 = omega arith

-- an entry that is counted lies in the table
pub entry_inside : (c : Class) (len i : ℕ) → i < count_of (size_of section_header c) len → i * size_of section_header c + size_of section_header c ≤ len
unfolding count_of
entry_inside c len i h = inside _ len i (omega (arith, entry_wide c)) (rw (ne_eqb (size_of section_header c) 0 (λ e. omega (arith, entry_wide c))) at h)

-- how many sections there are, by the table
pub no_sections : (s : List ℕ) (elf : Elf) → elf.sections ≡ None → below_of s elf (sections_of elf elf.sections) ≡ Ok no_common
unfolding below_of
no_sections s elf p = ap (λ (x : Option Range). below_of s elf (sections_of elf x)) p

pub all_sections : (s : List ℕ) (elf : Elf) (r : Range) → elf.sections ≡ Some r → r.from ≤ r.to → r.to ≤ length s
    → sections_of elf elf.sections ≡ count_of (size_of section_header elf.class) (length (part_of s r))
all_sections s elf r p l h =
    ap (sections_of elf) p
    ∙ (rw (le-leb _ _ l, length-take-le (r.to - r.from) (drop r.from s) (rw length-drop (omega arith))))

-- a section of another type adds nothing
other : (s : List ℕ) (elf : Elf) (c : Common) (h : SectionHeader) → adding h.kind ≡ false → collected s elf c h ≡ Ok c
unfolding collected
other s elf c h a = pick (eqb h.kind 2) (eqb h.kind 11) (eqb h.kind 6) (eqb h.kind 5) a
  where
    pick : (x y z w : Bool) → (x || w || z || y) ≡ false
        → cond x (symtab_told s elf c h) (cond y (dynsym_told s elf c h) (cond z (dynamic_told s elf c h) (cond w (hash_told s elf c h) (Ok c)))) ≡ Ok c
    pick true y z w p = cc
    pick false true z w p = let q : (w || z || true) ≡ true = or-true (w || z) in cc
    pick false false true w p = let q : (w || true) ≡ true = or-true w in cc
    pick false false false true p = cc
    pick false false false false p = refl

module _ (s : List ℕ) (elf : Elf) (r : Range) (t : List ℕ) (p : elf.sections ≡ Some r) (q : t ≡ part_of s r) (i : ℕ) (l : length t < 2 ^ 64)
    (h : i < count_of (size_of section_header elf.class) (length t)) where
  -- a section that is counted can be read
  read : section_in s elf i ≡ Ok (section_at elf.class elf.order t (i * size_of section_header elf.class))
  unfolding section_in
  read = ap (λ (x : Option Range). header_from (size_of section_header) section_at s elf x i) p ∙ (rw (← q, readable _ _ i (omega (arith, entry_wide elf.class)) l h))

  -- and adds what is said of a header of its type and its extent
  pub turn_told : (c new : Common) (k : ℕ) (x : Extent) (g : Result ⊤ Fault) → k ≡ number_at elf.order 4 t (i * size_of section_header elf.class + 4)
      → x ≡ extent_of (section_at elf.class elf.order t (i * size_of section_header elf.class))
      → ((h : SectionHeader) → k ≡ h.kind → x ≡ extent_of h → answer g new ≡ collected s elf c h) → step_of s elf c i ≡ answer g new
  unfolding step_of
  turn_told c new k x g p q told =
      let o = i * size_of section_header elf.class in
      let h = section_at elf.class elf.order t o in
      rw read (sym (told h (p ∙ sym (kind_at elf.class elf.order t o)) q))

  -- which is nothing unless its type is one of four
  pub adds_nothing : (c : Common) (k : ℕ) → k ≡ number_at elf.order 4 t (i * size_of section_header elf.class + 4) → adding k ≡ false → step_of s elf c i ≡ Ok c
  unfolding step_of
  adds_nothing c k e a =
      let x = kind_at elf.class elf.order t (i * size_of section_header elf.class) in
      rw read (other s elf c (section_at elf.class elf.order t (i * size_of section_header elf.class)) (rw (x, ← e) a))
