-- Two files that agree on the bytes that opening reads are opened alike.
-- Assumes nothing.
use Rattle.std.proofs.Common.{◌≡◌, ℕ, ◌≤◌, List, length, Bool, true, false, cond, leb, eqb, Result, Ok, Err, refl, ap, ap₂, ◌∙◌, arith}
use Rattle.std.specs.Prelude.{⊤}
use mathlib.Core.Bool.{or-true}
use Rattle.endian.specs.Range.{answer, ◌>>=◌}
use Rattle.endian.specs.Place.{size_of, file_header, section_header}
use Rattle.endian.specs.declared.fault.Fault.{Fault}
use Rattle.endian.specs.declared.fault.Fault.TheVariants.{OutsideData}
use Rattle.endian.specs.declared.Order.{Order}
use Rattle.endian.specs.declared.Class.{Class}
use Rattle.endian.specs.declared.Class.TheVariants.{Elf32, Elf64}
use Rattle.endian.proofs.Alike.{Within}
use Rattle.file.specs.Layout.{header_at}
use Rattle.file.specs.Open.{ident_of, header_of}
use Rattle.file.specs.declared.FileHeader.{FileHeader}
use Rattle.file.specs.declared.Ident.{Ident}
use Rattle.file.proofs.Alike.{header_same, ident_same}
use Rattle.section.specs.Layout.{section_at}
use Rattle.section.specs.declared.SectionHeader.{SectionHeader}
use Rattle.section.proofs.Alike.{size_same, info_same}
use Rattle.elf_bytes.specs.Open.{zero_fault, zero_header, section_count, segment_count, sections_in, segments_in, open_with, open_of}
use Rattle.elf_bytes.specs.Alike.{head_size, extended, SameHead}
use Rattle.elf_bytes.specs.declared.Elf.{Elf}

class_16 : (c : Class) → 16 ≤ size_of file_header c
class_16 Elf32 = omega arith
class_16 Elf64 = omega arith

size_16 : (i : Result Ident Fault) → 16 ≤ head_size i
size_16 (Err x) = omega arith
size_16 (Ok i) = class_16 i.class

-- a number that is read of section header 0, where it is the same in both files
zero_same : (r : Result ⊤ Fault) (of : SectionHeader → ℕ) (a b : SectionHeader) → of a ≡ of b → (answer r a >>= λ zero. Ok (of zero)) ≡ (answer r b >>= λ zero. Ok (of zero))
zero_same (Ok x) of a b p = ap Ok p
zero_same (Err x) of a b p = refl

module _ (f g : List ℕ) (l : length f ≡ length g) (c : Class) (e : Order) (o : ℕ) where
  sections_count : (n : ℕ) → (eqb n 0 ≡ true → Within f g o (size_of section_header c)) → section_count c e f o n ≡ section_count c e g o n
  sections_count n s = go (eqb n 0) refl
    where
      go : (b : Bool) → eqb n 0 ≡ b → cond b (zero_header c e f o >>= λ zero. Ok zero.size) (Ok n) ≡ cond b (zero_header c e g o >>= λ zero. Ok zero.size) (Ok n)
      go true p = rw l (zero_same (zero_fault c (length g) o) (λ h. h.size) (section_at c e f o) (section_at c e g o) (size_same c e f g o (s p)))
      go false p = refl

  segments_count : (n : ℕ) → (eqb n 65535 ≡ true → Within f g o (size_of section_header c)) → segment_count c e f o n ≡ segment_count c e g o n
  segments_count n s = go (eqb n 65535) refl
    where
      go : (b : Bool) → eqb n 65535 ≡ b → cond b (zero_header c e f o >>= λ zero. Ok zero.info) (Ok n) ≡ cond b (zero_header c e g o >>= λ zero. Ok zero.info) (Ok n)
      go true p = rw l (zero_same (zero_fault c (length g) o) (λ h. h.info) (section_at c e f o) (section_at c e g o) (info_same c e f g o (s p)))
      go false p = refl

open_with_same : (f g : List ℕ) (h : FileHeader) → length f ≡ length g → (extended h ≡ true → Within f g h.shoff (size_of section_header h.class)) → open_with f h ≡ open_with g h
unfolding open_with sections_in segments_in
open_with_same f g h l s =
    rw (
      sections_count f g l h.class h.order h.shoff h.shnum (λ p. s (rw p)),
      segments_count f g l h.class h.order h.shoff h.phnum (λ p. s (rw p (or-true (eqb h.shnum 0)))),
      l,
    )

pub open_same : (f g : List ℕ) → SameHead f g → open_of f ≡ open_of g
unfolding open_of header_of
open_same f g a = go (ident_of f) refl ∙ ap (λ (i : Result Ident Fault). i >>= opened g) i
  where
    opened : List ℕ → Ident → Result Elf Fault
    opened s i = cond (leb (size_of file_header i.class) (length s)) (open_with s (header_at i.class i.order s)) (Err OutsideData)

    i : ident_of f ≡ ident_of g
    i = ident_same f g a.same_length (λ k lt. a.header k (omega (arith, size_16 (ident_of f))))

    whole : (i : Ident) → ident_of f ≡ Ok i → (b : Bool) → leb (size_of file_header i.class) (length f) ≡ b
        → cond b (open_with f (header_at i.class i.order f)) (Err OutsideData) ≡ cond b (open_with g (header_at i.class i.order g)) (Err OutsideData)
    whole i p true q =
        let h = header_at i.class i.order f in
        let r : header_of f ≡ Ok h = rw (p, q) in
        let hs : h ≡ header_at i.class i.order g = header_same i.class i.order f g (λ k lt. a.header k (rw p lt)) in
        open_with_same f g h a.same_length (λ x. a.counts h r x)
        ∙ ap (open_with g) hs
    whole i p false q = refl

    go : (d : Result Ident Fault) → ident_of f ≡ d → (d >>= opened f) ≡ (d >>= opened g)
    go (Err x) p = refl
    go (Ok i) p =
        whole i p (leb (size_of file_header i.class) (length f)) refl
        ∙ ap (λ (n : ℕ). cond (leb (size_of file_header i.class) n) (open_with g (header_at i.class i.order g)) (Err OutsideData)) a.same_length
