-- The segments of an accepted file: where each lies, that they lie apart, the entry point; and the record of each.
-- Assumes nothing.
use Prim.Native.Nat.{ℕ, ◌+◌, ◌-◌, ◌≤◌, ◌<◌}
use native.Mathlib.Omega.{arith}
use mathlib.Core.Path.{◌≡◌, refl, sym, ap₂, ◌∙◌}
use mathlib.Core.Bool.{Bool, true, false, ◌&&◌, cond, true≢false}
use mathlib.Core.List.{List}
use lib.ListN.{length, get_or}
use lib.Dec.{leb, ltb}
use borrow.Author.Tests.{leb-true, le-leb}
use Rattle.segment.specs.declared.ProgramHeader.{ProgramHeader}
use Rattle.records.specs.Record.{Small}
use Rattle.load_rules.specs.Rules.{real, unfit, executable, writable, write_exec, holds_entry, first, last, low, record_of, max_file}
use Rattle.load_rules.specs.Facts.{Placed}
use Rattle.load_rules.specs.declared.Window.{Window}
use Rattle.std.proofs.lemmas.Bool.Decides.{nat_tests}
use Rattle.load_rules.proofs.Tests.{none_at, found}
use Rattle.load_plan.specs.Plan.{seg_at, passes, clash_with, clash_at}
use Rattle.load_plan.specs.Facts.{Accepted}
use Rattle.load_plan.specs.declared.Job.{Job}
use Rattle.load_plan.proofs.Order.{placed_at}
use Rattle.load_plan.proofs.Clash.{clash_apart}
use Rattle.load_image.specs.Pieces.{piece_byte, Neat}
use Rattle.load_image.specs.Image.{byte_of, SafeSegments}

-- where a loaded segment lies
pub record Sits (flen l : ℕ) (w : Window) (s : ProgramHeader) : Type 0 where
  pub place : Placed l w s
  pub sizes : s.filesz ≤ s.memsz
  pub in_file : s.offset + s.filesz ≤ flen
  pub short_file : flen ≤ max_file

pub record Bounds (l : ℕ) (w : Window) (s : ProgramHeader) : Type 0 where
  pub low : l ≤ first s
  pub start : first s ≤ s.vaddr
  pub stop : s.vaddr + s.memsz ≤ last s
  pub high : last s ≤ l + w.len

pub bounds : (flen l : ℕ) (w : Window) (s : ProgramHeader) → Sits flen l w s → Bounds l w s
bounds flen l w s p =
    let q = p.place in
    let a = q.page in
    let b = q.low in
    let c = q.high in
    let d = q.window_good.len_page in
    record { low = omega arith; start = omega arith; stop = omega arith; high = omega arith }

-- two tests of orders that go together
leb_same : (x y u v : ℕ) → (x ≤ y → u ≤ v) → (u ≤ v → x ≤ y) → leb x y ≡ leb u v
leb_same x y u v p q = go (leb u v) refl
  where
    go : (b : Bool) → leb u v ≡ b → leb x y ≡ leb u v
    go true e = le-leb x y (q (leb-true u v e)) ∙ sym e
    go false e = pick (leb x y) refl
      where
        pick : (b : Bool) → leb x y ≡ b → leb x y ≡ leb u v
        pick true d = absurd (true≢false (sym (le-leb u v (p (leb-true x y d))) ∙ e))
        pick false d = d ∙ sym e

-- ---- the record of a segment

module _ (flen l : ℕ) (w : Window) (s : ProgramHeader) (p : Sits flen l w s) where
  pub record_small : Small (record_of w.start l s)
  unfolding record_of
  record_small =
      let b = bounds flen l w s p in
      let g = p.place.window_good in
      record {
        page = omega (arith, b, g.end_fits, p.place.some_memory, p.place.low);
        len = omega (arith, b, g.len_small);
        prot = omega arith;
        at = omega (arith, b, g.end_fits, p.place.some_memory, p.place.low);
        count = omega (arith, p.in_file, p.short_file);
        from = omega (arith, p.in_file, p.short_file);
      }

  pub record_neat : Neat w.start w.len flen (record_of w.start l s)
  unfolding record_of
  record_neat =
      let b = bounds flen l w s p in
      record {
        fits = record {
          page_low = omega arith;
          page_high = omega (arith, b);
          at_low = omega arith;
          at_high = omega (arith, b, p.sizes, p.place.low);
          in_file = p.in_file;
        };
        front = omega (arith, b);
        back = omega (arith, b, p.sizes, p.place.low);
      }

  -- what the record puts at an address is what the program header says
  pub record_byte : (f : List ℕ) (a : ℕ) → l ≤ a → piece_byte f (record_of w.start l s) (w.start + (a - l)) ≡ byte_of f s a
  unfolding piece_byte record_of byte_of
  record_byte f a h =
      let v = p.place.low in
      let e1 : leb (w.start + (s.vaddr - l)) (w.start + (a - l)) ≡ leb s.vaddr a = leb_same (w.start + (s.vaddr - l)) (w.start + (a - l)) s.vaddr a (λ q. omega arith) (λ q. omega arith) in
      let e2 : w.start + (a - l) - (w.start + (s.vaddr - l)) ≡ a - s.vaddr = omega arith in
      ap₂ (λ (b : Bool) (n : ℕ). cond (b && ltb n s.filesz) (get_or f (s.offset + n) 0) 0) e1 e2

module _ (f : List ℕ) (j : Job) (w : Window) (room : ℕ) (acc : Accepted f j w room) where
  pub sits : (k : ℕ) → k < j.count → real (seg_at f j k) ≡ true → Sits (length f) (low j.kind w) w (seg_at f j k)
  unfolding passes
  sits k lt r =
      let s = seg_at f j k in
      let u : unfit (length f) s ≡ false = none_at (passes (unfit (length f)) (seg_at f j)) j.count k acc.sizes lt in
      record {
        place = placed_at f j w (low j.kind w) k s refl refl r acc.window acc.inside lt;
        sizes = grind (arith, nat_tests);
        in_file = grind (arith, nat_tests);
        short_file = acc.held.short_file;
      }

  -- ---- order

  pub apart : (i k : ℕ) → i < k → k < j.count → real (seg_at f j i) ≡ true → real (seg_at f j k) ≡ true → last (seg_at f j i) ≤ first (seg_at f j k)
  unfolding clash_at clash_with
  apart i k lt hk ri rk =
      clash_apart (seg_at f j i) (seg_at f j k) ri rk
      (none_at (clash_with (seg_at f j) k) k i (none_at (clash_at (seg_at f j)) j.count k acc.ordered hk) lt)

  -- ---- the promises of the segments

  pub entered : (k : ℕ) × (k < j.count) × (real (seg_at f j k) ≡ true) × (executable (seg_at f j k) ≡ true) × ((seg_at f j k).vaddr ≤ j.entry) × (j.entry < (seg_at f j k).vaddr + (seg_at f j k).memsz)
  unfolding passes
  entered =
      let q = found (passes (holds_entry j.entry) (seg_at f j)) j.count acc.entered in
      let s = seg_at f j q.0 in
      let t : holds_entry j.entry s ≡ true = q.2 in
      (q.0, q.1, grind (arith, nat_tests), grind (arith, nat_tests), grind (arith, nat_tests), grind (arith, nat_tests))

  pub not_both : (k : ℕ) → k < j.count → real (seg_at f j k) ≡ true → executable (seg_at f j k) ≡ true → writable (seg_at f j k) ≡ true → ⊥
  unfolding passes
  not_both k lt r x y =
      let e : write_exec (seg_at f j k) ≡ false = none_at (passes write_exec (seg_at f j)) j.count k acc.not_wx lt in
      grind (arith, nat_tests)

  pub safe_segments : SafeSegments f j w
  safe_segments = record {
    in_window = λ k lt r. let b = bounds (length f) (low j.kind w) w (seg_at f j k) (sits k lt r) in (b.low, b.high);
    apart = apart;
    covered = λ k a lt r p q. let b = bounds (length f) (low j.kind w) w (seg_at f j k) (sits k lt r) in record { below = lt; is_real = r; from = omega (arith, b.start); to = omega (arith, b.stop) };
    never_both = not_both;
    entry = entered;
  }
