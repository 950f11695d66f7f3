-- Carrying out a plan (document 01, section 7). The memory is the window: its byte 0 is at the window's start.
-- astray, beyond      a record's pages or bytes leave the window (24); its bytes aren't in the file (22)
-- passes p t k        a test of the k-th record
-- verdict_of           the refusal of the first test that holds, or none
-- carried start f r m     all bytes of the record's pages become 0, then the file bytes are put in place
-- carried_below       the first k records of a table carried out, one after the other
-- CarriedOut          what carrying out answers and leaves
-- Fitted              a record lies in the memory and in the file
-- Assumes nothing.
use Rattle.std.specs.Prelude.{ℕ, zero, suc, ◌+◌, ◌-◌, ◌/◌, ◌≤◌, ◌≡◌, Bool, not, ◌&&◌, List, [], ◌∷◌, length, take, drop, replicate, leb, ltb, eqb, Result, Ok, Err, ⊤}
use Rattle.memory.specs.Run.{put}
use Rattle.records.specs.Record.{record_at}
use Rattle.records.specs.declared.Record.{Record}
use Rattle.load_rules.specs.Rules.{any_below}
use Rattle.load_rules.specs.declared.Window.{Window}
use Rattle.load_plan.specs.Plan.{first_of}
use Rattle.load_plan.specs.declared.refusal.Refusal.{Refusal}
use Rattle.load_plan.specs.declared.refusal.Refusal.TheVariants.{ShortTable, Unfit, Outside}

-- ---- what is refused

abbrev pub astray : Window → Record → Bool
astray w r =
    not ((leb w.start r.page && leb (r.page - w.start + r.len) w.len)
    && (leb w.start r.at && leb (r.at - w.start + r.count) w.len))

abbrev pub beyond : ℕ → Record → Bool
beyond flen r = not (leb (r.from + r.count) flen)

-- a test of the k-th record of the table t
unfoldable pub passes : (Record → Bool) → List ℕ → ℕ → Bool
passes p t k = p (record_at t k)

-- of n records of the table t, for a file and a memory of these lengths
unfoldable pub verdict_of : Window → ℕ → List ℕ → ℕ → ℕ → Result ⊤ Refusal
verdict_of w flen t n mlen =
    first_of
    ((ltb (length t / 48) n, ShortTable) ∷
    (not (eqb mlen w.len), Outside) ∷
    (any_below (passes (astray w) t) n, Outside) ∷
    (any_below (passes (beyond flen) t) n, Unfit) ∷
    [])

-- ---- what is done

unfoldable pub carried : ℕ → List ℕ → Record → List ℕ → List ℕ
carried start f r m = put (r.at - start) (take r.count (drop r.from f)) (put (r.page - start) (replicate r.len 0) m)

unfoldable pub carried_below : ℕ → List ℕ → List ℕ → ℕ → List ℕ → List ℕ
carried_below start f t zero m = m
carried_below start f t (suc k) m = carried start f (record_at t k) (carried_below start f t k m)

-- the memory after an answer: the records carried out, or as it was
abbrev pub memory_after : Result ⊤ Refusal → List ℕ → List ℕ → List ℕ
memory_after (Ok x) done old = done
memory_after (Err r) done old = old

-- all records are carried out, or the memory is as it was
pub record CarriedOut (f : List ℕ) (w : Window) (t : List ℕ) (n : ℕ) (old new : List ℕ) (r : Result ⊤ Refusal) : Type 0 where
  pub answers : r ≡ verdict_of w (length f) t n (length old)
  pub memory : new ≡ memory_after r (carried_below w.start f t n old) old

-- ---- what holds of a record that is not refused, for a memory and a file of these lengths

pub record Fitted (start mlen flen : ℕ) (r : Record) : Type 0 where
  pub page_low : start ≤ r.page
  pub page_high : r.page - start + r.len ≤ mlen
  pub at_low : start ≤ r.at
  pub at_high : r.at - start + r.count ≤ mlen
  pub in_file : r.from + r.count ≤ flen
