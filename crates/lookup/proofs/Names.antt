-- The laws of `text_named`: what a look at the string table, and at the name itself, tell of it; and the table of names lies in the file.
-- Assumes nothing.
use Rattle.std.proofs.Common.{◌≡◌, ℕ, ◌*◌, ◌-◌, ◌≤◌, Bool, true, false, ◌&&◌, cond, List, length, eqb, ltb, Option, Some, None, is_ok, Result, Ok, Err, refl, arith}
use mathlib.Core.Bool.{and-false}
use Rattle.std.specs.Prelude.{⊤}
use Rattle.endian.specs.Number.{number_at}
use Rattle.endian.specs.Range.{◌>>=◌}
use Rattle.endian.specs.declared.fault.Fault.{Fault}
use Rattle.endian.specs.declared.fault.Fault.TheVariants.{BadOffset, NoZeroByte, NotUtf8}
use Rattle.endian.specs.declared.Order.{Order}
use Rattle.parse.specs.Entry.{range_at}
use Rattle.parse.specs.declared.Range.{Range}
use Rattle.parse.proofs.Laws.{first_never, range_inside}
use Rattle.string_table.specs.Text.{text_fault, text_at, same_bytes, is_clean, ends_of}
use Rattle.string_table.specs.Utf8.{well_formed, utf8_fault}
use Rattle.string_table.specs.Noted.{Notes, noted, span_of}
use Rattle.string_table.proofs.Laws.{same_known, unclean_other, none_behind, there_below, there_last}
use Rattle.string_table.proofs.Notes.{noting_true}
use Rattle.elf_bytes.specs.Open.{Tabled}
use Rattle.elf_bytes.specs.declared.Elf.{Elf}
use Rattle.contents.specs.Contents.{section_in}
use Rattle.lookup.specs.Lookup.{text_named, named, first_named, name_index, names_told, names_with, names_in}

-- a string that can't be read is nobody's name
pub named_beyond : (s : List ℕ) (o : ℕ) (name : List ℕ) (f : Fault) → text_fault s o ≡ Err f → text_named s o name ≡ false
unfolding text_named utf8_fault
named_beyond s o name f h = rw h

-- a string that can be read is the name where its bytes are: the name is UTF-8, and so is then the string
pub named_there : (s : List ℕ) (o : ℕ) (name : List ℕ) → text_fault s o ≡ Ok tt → well_formed name ≡ true → same_bytes (text_at s o) name ≡ text_named s o name
unfolding text_named utf8_fault
named_there s o name h w = rw h (pick (same_bytes (text_at s o) name) (well_formed (text_at s o)) refl refl)
  where
    pick : (b u : Bool) → same_bytes (text_at s o) name ≡ b → well_formed (text_at s o) ≡ u
        → b ≡ (is_ok (cond u (Ok (tt {0})) (Err NotUtf8)) && b)
    pick true true p q = refl
    pick true false p q = let k : well_formed (text_at s o) ≡ true = rw (same_known (text_at s o) name p) w in cc
    pick false true p q = refl
    pick false false p q = refl

-- a name that is not UTF-8 is nobody's
other : (s : List ℕ) (o : ℕ) (name : List ℕ) → well_formed name ≡ false → text_named s o name ≡ false
unfolding text_named utf8_fault
other s o name w = pick (text_fault s o) (same_bytes (text_at s o) name) (well_formed (text_at s o)) refl refl
  where
    pick : (a : Result ⊤ Fault) (b u : Bool) → same_bytes (text_at s o) name ≡ b → well_formed (text_at s o) ≡ u
        → (is_ok (a >>= λ _. cond u (Ok (tt {0})) (Err NotUtf8)) && b) ≡ false
    pick (Err f) b u p q = refl
    pick (Ok x) b false p q = refl
    pick (Ok x) false true p q = refl
    pick (Ok x) true true p q = let k : well_formed (text_at s o) ≡ false = rw (same_known (text_at s o) name p) w in cc

-- nor is one that holds a zero byte
pub none_unclean : (e : Order) (t : List ℕ) (size : ℕ) (s name : List ℕ) → is_clean name ≡ false → first_named e t size s name ≡ None
unfolding first_named named text_named
none_unclean e t size s name h =
    first_never _ _ _ (λ i. let o = number_at e 4 t (i * size) in rw (unclean_other s o name h) (and-false (is_ok (utf8_fault s o))))

pub none_other : (e : Order) (t : List ℕ) (size : ℕ) (s name : List ℕ) → well_formed name ≡ false → first_named e t size s name ≡ None
unfolding first_named named
none_other e t size s name w = first_never _ _ _ (λ i. other s (number_at e 4 t (i * size)) name w)

-- where no byte of the table is zero there is no string
nowhere : (s : List ℕ) (o : ℕ) (name : List ℕ) → ends_of s ≡ 0 → text_named s o name ≡ false
nowhere s o name z = pick (eqb (length s) 0) (ltb (length s) o) (none_behind s o (omega (arith, z)))
  where
    pick : (a b : Bool) → text_fault s o ≡ cond a (Err BadOffset) (cond b (Err BadOffset) (Err NoZeroByte)) → text_named s o name ≡ false
    pick true b q = named_beyond s o name BadOffset q
    pick false true q = named_beyond s o name BadOffset q
    pick false false q = named_beyond s o name NoZeroByte q

pub none_nowhere : (e : Order) (t : List ℕ) (size : ℕ) (s name : List ℕ) → ends_of s ≡ 0 → first_named e t size s name ≡ None
unfolding first_named named
none_nowhere e t size s name z = first_never _ _ _ (λ i. nowhere s (number_at e 4 t (i * size)) name z)

-- what is noted of the names stays true when the string at an offset is compared
pub stays_noted : (s name marks : List ℕ) (o : ℕ) → text_fault s o ≡ Ok tt → is_clean name ≡ true → Notes s name marks → Notes s name (noted s name o marks)
stays_noted s name marks o there clean n =
    let b = there_below s o there in
    noting_true s (ends_of s - 1) name (span_of (length s)) marks (there_last s o there) clean n o (omega arith)

-- ---- the table of names lies in the file

told : (s : List ℕ) (elf : Elf) (t : Option Range) → (names_told s elf >>= λ r. Ok (Some r)) ≡ Ok t → Tabled s t
told s elf t e = pick (name_index s elf) e
  where
    last : (g : Result Range Fault) → ((r : Range) → g ≡ Ok r → (r.from ≤ r.to) × (r.to ≤ length s)) → (g >>= λ r. Ok (Some r)) ≡ Ok t → Tabled s t
    last (Err f) h q = cc
    last (Ok r) h q = let z : Some r ≡ t = cc in rw (← z) (h r refl)

    pick : (i : Result ℕ Fault) → ((i >>= λ i. section_in s elf i >>= λ h. range_at (length s) h.offset h.size) >>= λ r. Ok (Some r)) ≡ Ok t → Tabled s t
    pick (Err f) q = cc
    pick (Ok i) q = elim (section_in s elf i) as (λ g. ((g >>= λ h. range_at (length s) h.offset h.size) >>= λ r. Ok (Some r)) ≡ Ok t → Tabled s t)
        [ Err f ↦ λ q. cc | Ok h ↦ λ q. last (range_at (length s) h.offset h.size) (range_inside (length s) h.offset h.size) q ] q

with_whole : (s : List ℕ) (elf : Elf) (x t : Option Range) → names_with s elf x ≡ Ok t → Tabled s t
with_whole s elf None t e = let z : None ≡ t = cc in rw (← z) tt
with_whole s elf (Some r) t e = pick (eqb elf.names 0) e
  where
    pick : (b : Bool) → cond b (Ok None) (names_told s elf >>= λ t. Ok (Some t)) ≡ Ok t → Tabled s t
    pick true q = let z : None ≡ t = cc in rw (← z) tt
    pick false q = told s elf t q

pub names_whole : (s : List ℕ) (elf : Elf) (r : Range) → names_in s elf ≡ Ok (Some r) → (r.from ≤ r.to) × (r.to ≤ length s)
unfolding names_in
names_whole s elf r e = with_whole s elf elf.sections (Some r) e
