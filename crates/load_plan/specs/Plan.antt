-- The load plan (document 01, section 7): which files are refused and why, and the records of an accepted one.
-- The tests of one segment and one window stand in load_rules; all numbers are natural numbers, so no sum wraps.
-- begun_of f           what the plan asks of the file f, or why it can't be asked (20)
-- seg_at f j k         the k-th program header
-- passes, some         a test of the k-th segment; a test holds of a segment
-- clash, clash_at      two segments that cannot both be loaded (25); the k-th clashes with one before it
-- tests f j w          the tests 21 to 27, in the table's order
-- verdict_of f j w room  the refusal with the smallest number that applies, 14 last, or none
-- plan_in, plan_of      the records
-- answer_of            the answer
-- Made f w old new r   what the answer r says of the table before and after
-- Assumes nothing.
use Rattle.std.specs.Prelude.{ℕ, zero, suc, ◌+◌, ◌-◌, ◌*◌, ◌≡◌, Bool, not, ◌&&◌, ◌||◌, cond, List, [], ◌∷◌, ◌++◌, length, drop, leb, ltb, eqb, Option, Some, None, Result, Ok, Err, ⊤}
use Rattle.endian.specs.Place.{size_of, program_header}
use Rattle.endian.specs.declared.fault.Fault.{Fault}
use Rattle.parse.specs.Entry.{count_of}
use Rattle.parse.specs.declared.Range.{Range}
use Rattle.segment.specs.Layout.{segment_at}
use Rattle.segment.specs.declared.ProgramHeader.{ProgramHeader}
use Rattle.elf_bytes.specs.Open.{open_of}
use Rattle.elf_bytes.specs.declared.Elf.{Elf}
use Rattle.records.specs.Record.{table_bytes}
use Rattle.records.specs.declared.Record.{Record}
use Rattle.load_rules.specs.Rules.{max_file, any_below, first, last, low, good_window, real, unfit, skewed, outside, write_exec, holds_entry, record_of}
use Rattle.load_rules.specs.declared.Window.{Window}
use Rattle.load_plan.specs.declared.Job.{Job}
use Rattle.load_plan.specs.declared.refusal.Refusal.{Refusal}
use Rattle.load_plan.specs.declared.refusal.Refusal.TheVariants.{ShortTable, TooLong, NoSegments, Unreadable, OtherKind, Unfit, Skewed, Outside, Clash, WriteExec, NoEntry}

abbrev pub window_of : ℕ → ℕ → Window
window_of start len = record { start = start; len = len }

-- the first refusal that is met decides
infixl 10 ◌>>=◌
abbrev pub ◌>>=◌ : {A B : Type 0} → Result A Refusal → (A → Result B Refusal) → Result B Refusal
(Ok x) >>= f = f x
(Err r) >>= f = Err r

-- ---- 20: the file can't be opened, or has no segments or a table of 0; a longer file too

abbrev pub job_of : Elf → ℕ → ℕ → Job
job_of elf from n = record {
  class = elf.class;
  order = elf.order;
  kind = elf.kind;
  entry = elf.entry;
  from = from;
  count = n;
}

abbrev pub job_with : Elf → ℕ → ℕ → Result Job Refusal
job_with elf from n = cond (eqb n 0) (Err NoSegments) (Ok (job_of elf from n))

abbrev pub job_in : Elf → Option Range → Result Job Refusal
job_in elf None = Err NoSegments
job_in elf (Some r) = job_with elf r.from (count_of (size_of program_header elf.class) (r.to - r.from))

abbrev pub begun_in : Result Elf Fault → Result Job Refusal
begun_in (Err x) = Err (Unreadable x)
begun_in (Ok elf) = job_in elf elf.segments

unfoldable pub begun_of : List ℕ → Result Job Refusal
begun_of f = cond (leb (length f) max_file) (begun_in (open_of f)) (Err TooLong)

-- ---- the tests

unfoldable pub seg_at : List ℕ → Job → ℕ → ProgramHeader
seg_at f j k = segment_at j.class j.order f (j.from + k * size_of program_header j.class)

unfoldable pub passes : (ProgramHeader → Bool) → (ℕ → ProgramHeader) → ℕ → Bool
passes p seg k = p (seg k)

-- the test p holds of a segment
abbrev pub some : List ℕ → Job → (ProgramHeader → Bool) → Bool
some f j p = any_below (passes p (seg_at f j)) j.count

-- two loaded segments, the first before the second in the table: addresses not ascending, or their pages overlap
abbrev pub clash : ProgramHeader → ProgramHeader → Bool
clash s t = (real s && real t) && (leb t.vaddr s.vaddr || (ltb (first s) (last t) && ltb (first t) (last s)))

unfoldable pub clash_with : (ℕ → ProgramHeader) → ℕ → ℕ → Bool
clash_with seg k i = clash (seg i) (seg k)

-- the k-th segment clashes with one before it
unfoldable pub clash_at : (ℕ → ProgramHeader) → ℕ → Bool
clash_at seg k = any_below (clash_with seg k) k

abbrev pub other : ℕ → Bool
other kind = not (eqb kind 2 || eqb kind 3)

-- the last is that a test holds of none
unfoldable pub tests : List ℕ → Job → Window → List (Bool × Refusal)
tests f j w =
    (other j.kind, OtherKind) ∷
    (some f j (unfit (length f)), Unfit) ∷
    (some f j skewed, Skewed) ∷
    (not (good_window w), Outside) ∷
    (some f j (outside (low j.kind w) w.len), Outside) ∷
    (any_below (clash_at (seg_at f j)) j.count, Clash) ∷
    (some f j write_exec, WriteExec) ∷
    (not (some f j (holds_entry j.entry)), NoEntry) ∷
    []

-- what the first test that holds stands for, or none
abbrev pub first_of : {R : Type 0} → List (Bool × R) → Result ⊤ R
first_of [] = Ok tt
first_of (t ∷ ts) = cond t.0 (Err t.1) (first_of ts)

-- ---- the records

-- the records of the segments before the k-th
unfoldable pub records_below : (ℕ → ProgramHeader) → ℕ → ℕ → ℕ → List Record
records_below seg start l zero = []
records_below seg start l (suc k) = cond (real (seg k)) (records_below seg start l k ++ (record_of start l (seg k) ∷ [])) (records_below seg start l k)

unfoldable pub plan_in : List ℕ → Window → Job → List Record
plan_in f w j = records_below (seg_at f j) w.start (low j.kind w) j.count

-- ---- the answer

unfoldable pub verdict_of : List ℕ → Job → Window → ℕ → Result ⊤ Refusal
verdict_of f j w room = first_of (tests f j w ++ ((ltb room (48 * length (plan_in f w j)), ShortTable) ∷ []))

abbrev pub records_in : List ℕ → Window → Result Job Refusal → List Record
records_in f w (Err x) = []
records_in f w (Ok j) = plan_in f w j

unfoldable pub plan_of : List ℕ → Window → List Record
plan_of f w = records_in f w (begun_of f)

-- how many records the plan has, with so much room in the table, or why there is none
unfoldable pub answer_of : List ℕ → Window → ℕ → Result ℕ Refusal
answer_of f w room = do
  j ← begun_of f
  accepted ← verdict_of f j w room
  Ok (length (plan_in f w j))

-- the table after an answer: the records and then what stood there, or as it was
abbrev pub table_after : Result ℕ Refusal → List Record → List ℕ → List ℕ
table_after (Ok n) rs t = table_bytes rs ++ drop (48 * length rs) t
table_after (Err r) rs t = t

pub record Made (f : List ℕ) (w : Window) (old new : List ℕ) (r : Result ℕ Refusal) : Type 0 where
  pub answers : r ≡ answer_of f w (length old)
  pub table : new ≡ table_after r (plan_of f w) old
