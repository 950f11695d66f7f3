-- A good window and a segment inside it, as facts about numbers; pages counted from the window's start; the record.
-- Assumes nothing.
use Prim.Native.Nat.{ℕ, ◌+◌, ◌-◌, ◌%◌, ◌≤◌, ◌<◌}
use native.Mathlib.Omega.{arith}
use mathlib.Core.Path.{◌≡◌}
use mathlib.Core.Bool.{true, false}
use Rattle.std.proofs.lemmas.Bool.Decides.{nat_tests}
use Rattle.segment.specs.declared.ProgramHeader.{ProgramHeader}
use Rattle.records.specs.declared.Record.{Record}
use Rattle.load_rules.specs.declared.Window.{Window}
use Rattle.load_rules.specs.Rules.{real, outside, good_window, low, down, up, first, last, record_of}
use Rattle.load_rules.specs.Facts.{Good, Placed}

pub real_pos : (s : ProgramHeader) → real s ≡ true → 0 < s.memsz
real_pos s r = grind (arith, nat_tests)

-- a real segment that is not outside
inside : (l len : ℕ) (s : ProgramHeader) → real s ≡ true → outside l len s ≡ false → (l ≤ s.vaddr) × (s.vaddr - l + s.memsz ≤ len)
inside l len s r o = grind (arith, nat_tests)

pub good : (w : Window) → good_window w ≡ true → Good w
unfolding good_window
good w h = record {
  start_page = grind (arith, nat_tests);
  len_page = grind (arith, nat_tests);
  len_small = grind (arith, nat_tests);
  end_fits = grind (arith, nat_tests);
}

low_page : (kind : ℕ) (w : Window) → w.start % 4096 ≡ 0 → low kind w % 4096 ≡ 0
low_page kind w e = grind (arith, nat_tests)

low_le : (kind : ℕ) (w : Window) → low kind w ≤ w.start
low_le kind w = grind (arith, nat_tests)

-- a segment that counts and passes test 24 lies in the window
pub placed : (kind : ℕ) (w : Window) (s : ProgramHeader) → real s ≡ true → good_window w ≡ true → outside (low kind w) w.len s ≡ false → Placed (low kind w) w s
placed kind w s r g o =
    let i = inside (low kind w) w.len s r o in
    let gw = good w g in
    record { page = low_page kind w gw.start_page; below = low_le kind w; low = i.0; high = i.1; some_memory = real_pos s r; window_good = gw }

-- pages counted from a page
pub down_from : (l v : ℕ) → l % 4096 ≡ 0 → l ≤ v → down v ≡ down (v - l) + l
down_from l v p h = omega arith

pub up_from : (l v m : ℕ) → l % 4096 ≡ 0 → l ≤ v → up (v + m) ≡ up (v - l + m) + l
up_from l v m p h = omega arith

pub record_eq : (w : Window) (l : ℕ) (s : ProgramHeader) → Placed l w s → (a b : ℕ) → a ≡ down (s.vaddr - l) → b ≡ up (s.vaddr - l + s.memsz)
    → ◌≡◌ {A = Record} (record { page = w.start + a; len = b - a; prot = s.flags % 8; at = w.start + (s.vaddr - l); count = s.filesz; from = s.offset }) (record_of w.start l s)
unfolding record_of
record_eq w l s p a b ea eb =
    let e1 : w.start + a ≡ w.start + (first s - l) = omega (arith, down_from l s.vaddr p.page p.low) in
    let e2 : b - a ≡ last s - first s = omega (arith, down_from l s.vaddr p.page p.low, up_from l s.vaddr s.memsz p.page p.low) in
    λ i. record { page = e1 i; len = e2 i; prot = s.flags % 8; at = w.start + (s.vaddr - l); count = s.filesz; from = s.offset }
