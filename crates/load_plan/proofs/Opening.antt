-- What is known of a file that is begun: its program headers lie in it, and each can be read.
-- Assumes nothing.
use Prim.Native.Nat.{ℕ, suc, ◌+◌, ◌-◌, ◌*◌, ◌/◌, ◌≤◌, ◌<◌}
use native.Mathlib.Nat.{mul-le-mul_right, suc-mul, div-mul-le_self}
use native.Mathlib.Omega.{arith}
use mathlib.Core.Path.{◌≡◌, refl}
use mathlib.Core.Bool.{Bool, true, false, cond}
use mathlib.Core.List.{List}
use lib.ListN.{length}
use lib.Dec.{leb, eqb}
use borrow.Author.Tests.{leb-true}
use Rattle.std.specs.Prelude.{Option, Some, None, Result, Ok, Err}
use Rattle.endian.specs.Place.{size_of, program_header}
use Rattle.endian.specs.declared.Class.{Class}
use Rattle.endian.specs.declared.Class.TheVariants.{Elf32, Elf64}
use Rattle.endian.specs.declared.fault.Fault.{Fault}
use Rattle.parse.specs.Entry.{count_of}
use Rattle.parse.specs.declared.Range.{Range}
use Rattle.elf_bytes.specs.Open.{open_of, Tabled}
use Rattle.elf_bytes.specs.declared.Elf.{Elf}
use Rattle.elf_bytes.proofs.Laws as open_laws
use Rattle.load_rules.specs.Rules.{max_file}
use Rattle.load_plan.specs.declared.Job.{Job}
use Rattle.load_plan.specs.declared.refusal.Refusal.TheVariants.{TooLong, NoSegments}
use Rattle.load_plan.specs.Plan.{begun_of, begun_in, job_in, job_of}
use Rattle.load_plan.specs.Facts.{Held}

-- a header is between 32 and 64 bytes
pub size_bounds : (c : Class) → (32 ≤ size_of program_header c) × (size_of program_header c ≤ 64)
size_bounds Elf32 = omega arith
size_bounds Elf64 = omega arith

-- the whole entries of a table lie in it
count_fits : (size len : ℕ) → count_of size len * size ≤ len
unfolding count_of
count_fits size len = pick (eqb size 0)
  where
    pick : (b : Bool) → cond b 0 (len / size) * size ≤ len
    pick true = omega arith
    pick false = div-mul-le_self len size

-- the k-th header lies in the file
pub seg_in : (f : List ℕ) (j : Job) (k : ℕ) → Held f j → k < j.count
    → j.from + k * size_of program_header j.class + size_of program_header j.class ≤ length f
seg_in f j k h lt =
    let size = size_of program_header j.class in
    let m : suc k * size ≤ j.count * size = mul-le-mul_right size lt in
    let n : k * size + size ≤ j.count * size = rw suc-mul at m in
    omega (arith, h.table_in_file)

-- the table of an opened file lies in it
pub tabled : (f : List ℕ) (elf : Elf) (r : Range) → open_of f ≡ Ok elf → elf.segments ≡ Some r → (r.from ≤ r.to) × (r.to ≤ length f)
tabled f elf r p q = rw q at (open_laws.opened f elf p).segments

-- a file that is begun holds its program headers
pub held_at : (f : List ℕ) (elf : Elf) (r : Range) (n : ℕ) → length f ≤ max_file → open_of f ≡ Ok elf → elf.segments ≡ Some r → n ≡ count_of (size_of program_header elf.class) (r.to - r.from)
    → Held f (job_of elf r.from n)
held_at f elf r n s p q e =
    let t = tabled f elf r p q in
    let c = count_fits (size_of program_header elf.class) (r.to - r.from) in
    record { table_in_file = rw e (omega (arith, c, t)); short_file = s }

pub held : (f : List ℕ) (j : Job) → begun_of f ≡ Ok j → Held f j
unfolding begun_of
held f j e = short (leb (length f) max_file) refl e
  where
    counted : (elf : Elf) (from n : ℕ) → from + n * size_of program_header elf.class ≤ length f → length f ≤ max_file → (b : Bool)
        → cond b (Err NoSegments) (Ok (job_of elf from n)) ≡ Ok j → Held f j
    counted elf from n p s true q = cc
    counted elf from n p s false q = let z : job_of elf from n ≡ j = cc in rw (← z) (record { table_in_file = p; short_file = s })

    at : (elf : Elf) (t : Option Range) → Tabled f t → length f ≤ max_file → job_in elf t ≡ Ok j → Held f j
    at elf None w s q = cc
    at elf (Some r) w s q =
        let n = count_of (size_of program_header elf.class) (r.to - r.from) in
        let p = count_fits (size_of program_header elf.class) (r.to - r.from) in
        counted elf r.from n (omega (arith, p, w.0, w.1)) s (eqb n 0) q

    told : (o : Result Elf Fault) → open_of f ≡ o → length f ≤ max_file → begun_in o ≡ Ok j → Held f j
    told (Err x) p s q = cc
    told (Ok elf) p s q = at elf elf.segments (open_laws.opened f elf p).segments s q

    short : (b : Bool) → leb (length f) max_file ≡ b → cond b (begun_in (open_of f)) (Err TooLong) ≡ Ok j → Held f j
    short true p q = told (open_of f) refl (leb-true _ _ p) q
    short false p q = cc
