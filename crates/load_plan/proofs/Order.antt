-- One turn of the walks over the segments: the order of pages, and the count of those that are loaded.
-- Assumes nothing.
use Prim.Native.Nat.{ℕ, zero, suc, ◌+◌, ◌-◌, ◌%◌, ◌≤◌, ◌<◌}
use native.Mathlib.Nat.{le_of_eq, le_trans, eq-or-lt_of_le, le_of_suc-le-suc}
use native.Mathlib.Numerals.{add-one}
use native.Mathlib.Omega.{arith}
use mathlib.Core.Path.{◌≡◌, sym, ap, ◌∙◌}
use mathlib.Core.Bool.{Bool, true, false, cond}
use mathlib.Core.List.{List}
use mathlib.Core.Logic.{⊎_elim}
use borrow.Author.Tests.{lt-ltb, le-ltb}
use Rattle.segment.specs.declared.ProgramHeader.{ProgramHeader}
use Rattle.load_rules.specs.Rules.{any_below, real, outside, good_window, low, down, up, first}
use Rattle.load_rules.specs.Facts.{Placed}
use Rattle.load_rules.specs.declared.Window.{Window}
use Rattle.load_rules.proofs.Tests.{none_at}
use Rattle.load_rules.proofs.Pages.{placed, down_from, up_from}
use Rattle.load_plan.specs.declared.Job.{Job}
use Rattle.load_plan.specs.Plan.{seg_at, passes}
use Rattle.load_plan.specs.Facts.{count_below, end_below, crossed}

-- a segment that counts lies in the window, once none is outside
pub placed_at : (f : List ℕ) (j : Job) (w : Window) (l k : ℕ) {n : ℕ} (s : ProgramHeader) → l ≡ low j.kind w → s ≡ seg_at f j k → real s ≡ true → good_window w ≡ true
    → any_below (passes (outside l w.len) (seg_at f j)) n ≡ false → k < n → Placed l w s
unfolding passes
placed_at f j w l k {n = n} s el es r g none lt =
    let o : outside l w.len s ≡ false = ap (outside l w.len) es ∙ none_at (passes (outside l w.len) (seg_at f j)) n k none lt in
    rw el (placed j.kind w s r g (rw el at o))

-- at a segment that counts and at one that does not
module _ (seg : ℕ → ProgramHeader) (l k end : ℕ) (s : ProgramHeader) (e : s ≡ seg k) where
  pub end_real : real s ≡ true → l % 4096 ≡ 0 → l ≤ s.vaddr → up (s.vaddr - l + s.memsz) + l ≡ end_below seg l (k + 1)
  unfolding end_below
  end_real r p h = rw add-one (rw (← e) (rw r (sym (up_from l s.vaddr s.memsz p h))))

  pub end_skip : real s ≡ false → end + l ≡ end_below seg l k → end + l ≡ end_below seg l (k + 1)
  unfolding end_below
  end_skip r h = rw add-one (rw (← e) (rw r h))

  pub crossed_skip : real s ≡ false → crossed seg l k ≡ false
  unfolding crossed
  crossed_skip r = rw (← e) (rw r)

  pub crossed_yes : real s ≡ true → l % 4096 ≡ 0 → l ≤ s.vaddr → end + l ≡ end_below seg l k → down (s.vaddr - l) < end → crossed seg l k ≡ true
  unfolding crossed
  crossed_yes r p h i lt = rw (← e) (rw r (lt-ltb (first s) (end_below seg l k) (omega (arith, down_from l s.vaddr p h))))

  pub crossed_no : real s ≡ true → l % 4096 ≡ 0 → l ≤ s.vaddr → end + l ≡ end_below seg l k → end ≤ down (s.vaddr - l) → crossed seg l k ≡ false
  unfolding crossed
  crossed_no r p h i le = rw (← e) (rw r (le-ltb (first s) (end_below seg l k) (omega (arith, down_from l s.vaddr p h))))

module _ (seg : ℕ → ProgramHeader) (k : ℕ) (s : ProgramHeader) (e : s ≡ seg k) where
  pub count_real : real s ≡ true → count_below seg k + 1 ≡ count_below seg (k + 1)
  unfolding count_below
  count_real r = rw (add-one k) (rw (← e) (rw r))

  pub count_skip : real s ≡ false → count_below seg k ≡ count_below seg (k + 1)
  unfolding count_below
  count_skip r = rw (add-one k) (rw (← e) (rw r))

pub count_le : (seg : ℕ → ProgramHeader) (n : ℕ) → count_below seg n ≤ n
unfolding count_below
count_le seg zero = omega arith
count_le seg (suc n) = go (count_le seg n) (real (seg n))
  where
    go : count_below seg n ≤ n → (b : Bool) → cond b (count_below seg n + 1) (count_below seg n) ≤ suc n
    go h true = omega arith
    go h false = omega arith

pub count_mono : (seg : ℕ → ProgramHeader) (k n : ℕ) → k ≤ n → count_below seg k ≤ count_below seg n
unfolding count_below
count_mono seg k zero h = let e : k ≡ 0 = omega arith in le_of_eq (ap (count_below seg) e)
count_mono seg k (suc n) h =
    ⊎_elim
    (λ e. le_of_eq (ap (count_below seg) e))
    (λ lt. le_trans (count_mono seg k n (le_of_suc-le-suc lt)) (up_one (real (seg n))))
    (eq-or-lt_of_le h)
  where
    up_one : (b : Bool) → count_below seg n ≤ cond b (count_below seg n + 1) (count_below seg n)
    up_one true = omega arith
    up_one false = omega arith
