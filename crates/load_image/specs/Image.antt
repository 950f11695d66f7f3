-- What a loaded file is: the promises of the plan that was made, and of the memory after it is carried out.
-- byte_of f s a           the byte that a program header puts at an address of its pages
-- On f j k a             the address a is in the pages of the k-th segment, which is loaded
-- SafeSegments f j w     the segments of a plan that is made
-- SafeRecords f j w t n  the n records in the table t, which can be executed blind
-- Loaded f j w old new   the memory before and after
-- Outcome                what loading answers and leaves
-- Assumes nothing.
use Rattle.std.specs.Prelude.{ℕ, ◌+◌, ◌-◌, ◌/◌, ◌%◌, ◌≤◌, ◌<◌, ◌≡◌, true, ◌&&◌, cond, List, length, get_or, leb, ltb, eqb, Result, Ok, Err}
use Rattle.segment.specs.declared.ProgramHeader.{ProgramHeader}
use Rattle.records.specs.Record.{record_at}
use Rattle.load_rules.specs.Rules.{real, first, last, low, executable, writable}
use Rattle.load_rules.specs.declared.Window.{Window}
use Rattle.load_plan.specs.Plan.{seg_at, begun_of, plan_of, answer_of, table_after}
use Rattle.load_plan.specs.declared.Job.{Job}
use Rattle.load_plan.specs.declared.refusal.Refusal.{Refusal}
use Rattle.load_plan.specs.declared.refusal.Refusal.TheVariants.{Outside}

-- ---- the image

-- a byte of the file, or zero
unfoldable pub byte_of : List ℕ → ProgramHeader → ℕ → ℕ
byte_of f s a = cond (leb s.vaddr a && ltb (a - s.vaddr) s.filesz) (get_or f (s.offset + (a - s.vaddr)) 0) 0

pub record On (f : List ℕ) (j : Job) (k a : ℕ) : Type 0 where
  pub below : k < j.count
  pub is_real : real (seg_at f j k) ≡ true
  pub from : first (seg_at f j k) ≤ a
  pub to : a < last (seg_at f j k)

pub record Loaded (f : List ℕ) (j : Job) (w : Window) (old new : List ℕ) : Type 0 where
  pub same_length : length new ≡ length old
  -- each byte of a loaded page is what its program header says: no byte that lay there before is in it
  pub loaded : (k a : ℕ) → On f j k a → get_or new (a - low j.kind w) 0 ≡ byte_of f (seg_at f j k) a
  -- each byte outside the pages is as it was
  pub kept : (i : ℕ) → ((k : ℕ) → On f j k (low j.kind w + i) → ⊥) → get_or new i 0 ≡ get_or old i 0

-- ---- the plan, as the program headers have it

pub record SafeSegments (f : List ℕ) (j : Job) (w : Window) : Type 0 where
  pub in_window : (k : ℕ) → k < j.count → real (seg_at f j k) ≡ true → (low j.kind w ≤ first (seg_at f j k)) × (last (seg_at f j k) ≤ low j.kind w + w.len)
  pub apart : (i k : ℕ) → i < k → k < j.count → real (seg_at f j i) ≡ true → real (seg_at f j k) ≡ true → last (seg_at f j i) ≤ first (seg_at f j k)
  pub covered : (k a : ℕ) → k < j.count → real (seg_at f j k) ≡ true → (seg_at f j k).vaddr ≤ a → a < (seg_at f j k).vaddr + (seg_at f j k).memsz → On f j k a
  pub never_both : (k : ℕ) → k < j.count → real (seg_at f j k) ≡ true → executable (seg_at f j k) ≡ true → writable (seg_at f j k) ≡ true → ⊥
  pub entry : (k : ℕ) × (k < j.count) × (real (seg_at f j k) ≡ true) × (executable (seg_at f j k) ≡ true) × ((seg_at f j k).vaddr ≤ j.entry) × (j.entry < (seg_at f j k).vaddr + (seg_at f j k).memsz)

-- ---- the plan, as the table has it

-- the entry point's address: a file of type 3 counts from the window's start
abbrev pub entry_of : Job → Window → ℕ
entry_of j w = w.start + (j.entry - low j.kind w)

pub record SafeRecords (f : List ℕ) (j : Job) (w : Window) (t : List ℕ) (n : ℕ) : Type 0 where
  -- the pieces lie in the window
  pub in_window : (k : ℕ) → k < n → (w.start ≤ (record_at t k).page) × ((record_at t k).page + (record_at t k).len ≤ w.start + w.len)
  -- they don't overlap
  pub apart : (i k : ℕ) → i < k → k < n → (record_at t i).page + (record_at t i).len ≤ (record_at t k).page
  -- they cover each page they touch: a piece is whole pages, at least one
  pub covered : (k : ℕ) → k < n → ((record_at t k).page % 4096 ≡ 0) × ((record_at t k).len % 4096 ≡ 0) × (0 < (record_at t k).len)
  -- the file bytes of a piece lie in its pages, and in the file
  pub bytes_in : (k : ℕ) → k < n → ((record_at t k).page ≤ (record_at t k).at) × ((record_at t k).at + (record_at t k).count ≤ (record_at t k).page + (record_at t k).len) × ((record_at t k).from + (record_at t k).count ≤ length f)
  -- nothing is writable and executable
  pub never_both : (k : ℕ) → k < n → (record_at t k).prot % 2 ≡ 1 → (record_at t k).prot / 2 % 2 ≡ 1 → ⊥
  -- the entry point is executable
  pub entry : (k : ℕ) × (k < n) × ((record_at t k).prot % 2 ≡ 1) × ((record_at t k).page ≤ entry_of j w) × (entry_of j w < (record_at t k).page + (record_at t k).len)

-- ---- loading

-- what holds of a file that is loaded, with n records in the table t
pub record Done (f : List ℕ) (w : Window) (t : List ℕ) (n : ℕ) (old new : List ℕ) : Type 0 where
  pub job : Job
  pub is_job : begun_of f ≡ Ok job
  pub segments : SafeSegments f job w
  pub pieces : SafeRecords f job w t n
  pub image : Loaded f job w old new

abbrev pub After : List ℕ → Window → List ℕ → List ℕ → List ℕ → Result ℕ Refusal → Type 0
After f w t old new (Ok n) = Done f w t n old new
After f w t old new (Err r) = new ≡ old

-- the plan's answer; 24 too where the memory is not as long as the window
unfoldable pub load_answer : List ℕ → Window → ℕ → ℕ → Result ℕ Refusal
load_answer f w room mlen = cond (eqb mlen w.len) (answer_of f w room) (Err Outside)

pub record Outcome (f : List ℕ) (w : Window) (table table' old new : List ℕ) (r : Result ℕ Refusal) : Type 0 where
  pub answers : r ≡ load_answer f w (length table) (length old)
  -- the records of the file and behind them what stood there, or as it was
  pub table_is : table' ≡ table_after r (plan_of f w) table
  -- loaded and safe, or as it was
  pub memory_is : After f w table' old new r
