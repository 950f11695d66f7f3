-- The laws of opening: a table that is told lies in the file, and so do the tables of every opened file; an opened file has a whole header.
-- Assumes nothing.
use Rattle.std.proofs.Common.{◌≡◌, ℕ, ◌+◌, ◌*◌, ◌^◌, ◌≤◌, ◌<◌, List, length, Bool, true, false, cond, leb, eqb, Option, Some, None, Result, Ok, Err, refl, sym, ap, arith}
use Rattle.std.specs.Prelude.{⊤}
use Rattle.std.proofs.lemmas.Bool.Decides.{nat_tests}
use borrow.Author.Tests.{leb-true}
use Rattle.parse.specs.Entry.{range_of}
use Rattle.parse.specs.declared.Range.{Range}
use Rattle.endian.specs.Range.{range_fault, answer, ◌>>=◌}
use Rattle.endian.specs.Place.{size_of, file_header, section_header, program_header}
use Rattle.endian.specs.declared.fault.Fault.{Fault}
use Rattle.endian.specs.declared.fault.Fault.TheVariants.{OutsideData}
use Rattle.endian.specs.declared.Order.{Order}
use Rattle.endian.specs.declared.Class.{Class}
use Rattle.file.specs.Layout.{header_at, outline_of}
use Rattle.file.specs.Open.{ident_of, header_of}
use Rattle.file.specs.declared.FileHeader.{FileHeader}
use Rattle.file.specs.declared.Outline.{Outline}
use Rattle.file.specs.declared.Ident.{Ident}
use Rattle.elf_bytes.specs.Open.{zero_fault, table_fault, table_at, section_count, segment_count, sections_in, segments_in, open_with, open_of, elf_of, Tabled, Whole}
use Rattle.elf_bytes.specs.declared.Elf.{Elf}

-- what opening answers, by the outline of the header
module _ (c : Class) (e : Order) (s : List ℕ) (x : Outline) (q : x ≡ outline_of (header_at c e s)) where
  pub outlined : open_with s (header_at c e s) ≡ (sections_in c e s x.shoff x.shnum x.shentsize
      >>= λ a. segments_in c e s x.shoff x.phoff x.phnum x.phentsize >>= λ b. Ok (elf_of (header_at c e s) a b))
  unfolding open_with header_at
  outlined = ap (λ (y : Outline). sections_in c e s y.shoff y.shnum y.shentsize
      >>= λ a. segments_in c e s y.shoff y.phoff y.phnum y.phentsize >>= λ b. Ok (elf_of (header_at c e s) a b)) (sym q)

-- a section header 0 that can be read lies in the file
pub zero_whole : (c : Class) (len o : ℕ) → zero_fault c len o ≡ Ok tt → o + size_of section_header c ≤ len
unfolding zero_fault
zero_whole c len o e = grind (arith, nat_tests)

-- a table without a fault lies in the file, and its size does not overflow
pub table_whole : (len o n given size : ℕ) → table_fault len o n given size ≡ Ok tt → (n * size < 2 ^ 64) × (o + n * size ≤ len)
unfolding table_fault range_fault
table_whole len o n given size e = grind (arith, nat_tests)

-- ---- an opened file's tables lie in the file

-- a value that is told is told by the first step, and by the second of what it told
first_step : {A B : Type 0} (r : Result A Fault) (f : A → Result B Fault) (b : B) → (r >>= f) ≡ Ok b → (a : A) × (r ≡ Ok a) × (f a ≡ Ok b)
first_step (Ok a) f b e = (a, refl, e)
first_step (Err x) f b e = cc

table_inside : (len o n given size : ℕ) (r : Range) → table_at len o n given size ≡ Ok r → (r.from ≤ r.to) × (r.to ≤ len)
unfolding table_fault range_fault
table_inside len o n given size r e = grind (arith, nat_tests)

tabled_in : (s : List ℕ) (o given size : ℕ) (count : Result ℕ Fault) (t : Option Range)
    → (count >>= λ n. table_at (length s) o n given size >>= λ r. Ok (Some r)) ≡ Ok t → Tabled s t
tabled_in s o given size count t e =
    let a = first_step count _ t e in
    let b = first_step (table_at (length s) o a.0 given size) _ t a.2 in
    let z : Some b.0 ≡ t = cc b.2 in
    rw (← z) (table_inside (length s) o a.0 given size b.0 b.1)

-- where offset 0 means none
maybe : (s : List ℕ) (b : Bool) (g : Result (Option Range) Fault) (t : Option Range) → (g ≡ Ok t → Tabled s t)
    → cond b (Ok None) g ≡ Ok t → Tabled s t
maybe s true g t h e = let z : None ≡ t = cc in rw (← z) tt
maybe s false g t h e = h e

sections_whole : (c : Class) (e : Order) (s : List ℕ) (o n given : ℕ) (t : Option Range) → sections_in c e s o n given ≡ Ok t → Tabled s t
unfolding sections_in
sections_whole c e s o n given t p = maybe s (eqb o 0) _ t (tabled_in s o given (size_of section_header c) (section_count c e s o n) t) p

segments_whole : (c : Class) (e : Order) (s : List ℕ) (z o n given : ℕ) (t : Option Range) → segments_in c e s z o n given ≡ Ok t → Tabled s t
unfolding segments_in
segments_whole c e s z o n given t p = maybe s (eqb o 0) _ t (tabled_in s o given (size_of program_header c) (segment_count c e s z n) t) p

-- what opening says is said of the header's class and order, and its tables lie in the file
pub opened_with : (s : List ℕ) (h : FileHeader) (elf : Elf) → open_with s h ≡ Ok elf → Whole s elf × (elf.class ≡ h.class) × (elf.order ≡ h.order)
unfolding open_with
opened_with s h elf e =
    let a = first_step (sections_in h.class h.order s h.shoff h.shnum h.shentsize) _ elf e in
    let b = first_step (segments_in h.class h.order s h.shoff h.phoff h.phnum h.phentsize) _ elf a.2 in
    let z : elf_of h a.0 b.0 ≡ elf = cc b.2 in
    rw (← z) (
      record {
        sections = sections_whole h.class h.order s h.shoff h.shnum h.shentsize a.0 a.1;
        segments = segments_whole h.class h.order s h.shoff h.phoff h.phnum h.phentsize b.0 b.1;
      },
      refl,
      refl,
    )

-- a test that is passed
passed : {A : Type 0} (b : Bool) (r : Result A Fault) (x : Fault) (a : A) → cond b r (Err x) ≡ Ok a → (b ≡ true) × (r ≡ Ok a)
passed true r x a e = (refl, e)
passed false r x a e = cc

pub opened : (s : List ℕ) (elf : Elf) → open_of s ≡ Ok elf → Whole s elf
unfolding open_of
opened s elf e =
    let i = first_step (ident_of s) _ elf e in
    let p = passed (leb (size_of file_header i.0.class) (length s)) _ OutsideData elf i.2 in
    (opened_with s (header_at i.0.class i.0.order s) elf p.1).0

-- the bounds of a table that is there
pub tabled_at : (s : List ℕ) (t : Option Range) (r : Range) → Tabled s t → t ≡ Some r → (r.from ≤ r.to) × (r.to ≤ length s)
tabled_at s t r h e = rw e at h

opened_in : (c : Class) (o : Order) (s : List ℕ) (elf : Elf) → open_with s (header_at c o s) ≡ Ok elf → (elf.class ≡ c) × (elf.order ≡ o)
unfolding header_at
opened_in c o s elf q = let k = opened_with s (header_at c o s) elf q in (k.1, k.2)

header_said : (s : List ℕ) (i : Ident) → ident_of s ≡ Ok i → leb (size_of file_header i.class) (length s) ≡ true → header_of s ≡ Ok (header_at i.class i.order s)
unfolding header_of
header_said s i p q = rw (p, q)

-- an opened file has a whole header, read in its class and order; a file that is refused for its header is refused for the same reason
pub opened_header : (s : List ℕ) (elf : Elf) → open_of s ≡ Ok elf
    → (size_of file_header elf.class ≤ length s) × (header_of s ≡ Ok (header_at elf.class elf.order s))
unfolding open_of
opened_header s elf e =
    let i = first_step (ident_of s) _ elf e in
    let p = passed (leb (size_of file_header i.0.class) (length s)) _ OutsideData elf i.2 in
    let k = opened_in i.0.class i.0.order s elf p.1 in
    same i.0 elf.class elf.order k.0 k.1 (leb-true _ _ p.0) (header_said s i.0 i.1 p.0)
  where
    same : (i : Ident) (c : Class) (o : Order) → c ≡ i.class → o ≡ i.order → size_of file_header i.class ≤ length s → header_of s ≡ Ok (header_at i.class i.order s)
        → (size_of file_header c ≤ length s) × (header_of s ≡ Ok (header_at c o s))
    same i c o p q a b = rw (p, q) (a, b)

pub refused_header : (s : List ℕ) (f g : Fault) → open_of s ≡ Err f → header_of s ≡ Err g → g ≡ f
unfolding open_of header_of
refused_header s f g e h = go (ident_of s) e h
  where
    pick : {A B : Type 0} (b : Bool) (r : Result A Fault) (x : B) → cond b r (Err OutsideData) ≡ Err f → cond b (Ok x) (Err OutsideData) ≡ Err g → g ≡ f
    pick true r x p q = cc
    pick false r x p q = cc

    go : (i : Result Ident Fault) → (i >>= λ i. cond (leb (size_of file_header i.class) (length s)) (open_with s (header_at i.class i.order s)) (Err OutsideData)) ≡ Err f
        → (i >>= λ i. cond (leb (size_of file_header i.class) (length s)) (Ok (header_at i.class i.order s)) (Err OutsideData)) ≡ Err g → g ≡ f
    go (Err x) p q = cc
    go (Ok i) p q = pick (leb (size_of file_header i.class) (length s)) (open_with s (header_at i.class i.order s)) (header_at i.class i.order s) p q
