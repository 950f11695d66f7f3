-- What contracts of private functions ask for and say.
-- Held f j             the program headers lie in the file, and the file is not too long
-- Accepted f j w room  no test holds
-- Filled rs old new n  n records stand in the table, and behind them what stood there
-- count_below          how many segments before the k-th are loaded
-- end_below, crossed   how the walk tests the order of pages: in one pass
-- Assumes nothing.
use Rattle.std.specs.Prelude.{ℕ, zero, suc, ◌+◌, ◌*◌, ◌≤◌, ◌≡◌, Bool, true, false, ◌&&◌, cond, List, ◌++◌, length, drop, ltb}
use Rattle.endian.specs.Place.{size_of, program_header}
use Rattle.segment.specs.declared.ProgramHeader.{ProgramHeader}
use Rattle.records.specs.Record.{table_bytes}
use Rattle.records.specs.declared.Record.{Record}
use Rattle.load_rules.specs.Rules.{max_file, any_below, first, last, low, good_window, real, unfit, skewed, outside, write_exec, holds_entry}
use Rattle.load_rules.specs.declared.Window.{Window}
use Rattle.load_plan.specs.declared.Job.{Job}
use Rattle.load_plan.specs.Plan.{seg_at, some, clash_at, other, plan_in}

pub record Held (f : List ℕ) (j : Job) : Type 0 where
  pub table_in_file : j.from + j.count * size_of program_header j.class ≤ length f
  pub short_file : length f ≤ max_file

pub record Accepted (f : List ℕ) (j : Job) (w : Window) (room : ℕ) : Type 0 where
  pub held : Held f j
  pub kind : other j.kind ≡ false
  pub sizes : some f j (unfit (length f)) ≡ false
  pub aligned : some f j skewed ≡ false
  pub window : good_window w ≡ true
  pub inside : some f j (outside (low j.kind w) w.len) ≡ false
  pub ordered : any_below (clash_at (seg_at f j)) j.count ≡ false
  pub not_wx : some f j write_exec ≡ false
  pub entered : some f j (holds_entry j.entry) ≡ true
  pub room_enough : 48 * length (plan_in f w j) ≤ room

pub record Filled (rs : List Record) (old new : List ℕ) (n : ℕ) : Type 0 where
  pub count : n ≡ length rs
  pub table : new ≡ table_bytes rs ++ drop (48 * length rs) old

unfoldable pub count_below : (ℕ → ProgramHeader) → ℕ → ℕ
count_below seg zero = 0
count_below seg (suc k) = cond (real (seg k)) (count_below seg k + 1) (count_below seg k)

-- where the pages of the segments before the k-th end: l, the window's start, where there is none
unfoldable pub end_below : (ℕ → ProgramHeader) → ℕ → ℕ → ℕ
end_below seg l zero = l
end_below seg l (suc k) = cond (real (seg k)) (last (seg k)) (end_below seg l k)

-- the k-th segment's pages start before the end of those before it
unfoldable pub crossed : (ℕ → ProgramHeader) → ℕ → ℕ → Bool
crossed seg l k = real (seg k) && ltb (first (seg k)) (end_below seg l k)
