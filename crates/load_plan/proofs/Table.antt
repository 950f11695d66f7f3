-- The table as the filling loop leaves it: the records so far, and behind them what stood there.
-- Assumes nothing.
use Prim.Native.Nat.{ℕ, zero, suc, ◌+◌, ◌-◌, ◌*◌, ◌/◌, ◌≤◌, ◌<◌}
use native.Mathlib.Numerals.{add-one}
use native.Mathlib.Omega.{arith}
use mathlib.Core.Path.{◌≡◌, refl, sym, ap, ap₂, ◌∙◌}
use mathlib.Core.Bool.{Bool, true, false, cond}
use mathlib.Core.List.{List, [], ◌∷◌, ◌++◌}
use lib.Dec.{ltb}
use Rattle.std.proofs.lemmas.Bool.Decides.{nat_tests}
use lib.ListN.{length, drop, length-append, length-drop}
use Rattle.segment.specs.declared.ProgramHeader.{ProgramHeader}
use Rattle.memory.specs.Run.{put}
use Rattle.records.specs.Record.{record_bytes, table_bytes}
use Rattle.records.specs.declared.Record.{Record}
use Rattle.records.proofs.Laws.{length_table, table_turn}
use Rattle.load_rules.specs.Rules.{real, low, record_of}
use Rattle.load_rules.specs.declared.Window.{Window}
use Rattle.load_plan.specs.declared.Job.{Job}
use Rattle.load_plan.specs.Plan.{seg_at, records_below, plan_in}
use Rattle.load_plan.specs.Facts.{count_below}
use Rattle.load_plan.proofs.Order.{count_real, count_mono}

pub length_records : (seg : ℕ → ProgramHeader) (start l k : ℕ) → length (records_below seg start l k) ≡ count_below seg k
unfolding records_below count_below
length_records seg start l zero = refl
length_records seg start l (suc k) = go (length_records seg start l k) (real (seg k))
  where
    go : length (records_below seg start l k) ≡ count_below seg k → (b : Bool)
        → length (cond b (records_below seg start l k ++ (record_of start l (seg k) ∷ [])) (records_below seg start l k)) ≡ cond b (count_below seg k + 1) (count_below seg k)
    go h true = length-append (records_below seg start l k) (record_of start l (seg k) ∷ []) ∙ ap (λ (n : ℕ). n + 1) h
    go h false = h

pub plan_count : (f : List ℕ) (w : Window) (j : Job) → length (plan_in f w j) ≡ count_below (seg_at f j) j.count
unfolding plan_in
plan_count f w j = length_records (seg_at f j) w.start (low j.kind w) j.count

-- a room that is too short, told from the quotient
short : (room n : ℕ) → ltb room (48 * n) ≡ ltb (room / 48) n
short room n = grind (arith, nat_tests)

pub short_table : (f : List ℕ) (w : Window) (j : Job) (room : ℕ) → ltb room (48 * length (plan_in f w j)) ≡ ltb (room / 48) (count_below (seg_at f j) j.count)
short_table f w j room = ap (λ (n : ℕ). ltb room (48 * n)) (plan_count f w j) ∙ short room (count_below (seg_at f j) j.count)

module _ (seg : ℕ → ProgramHeader) (start l k : ℕ) (s : ProgramHeader) (e : s ≡ seg k) where
  pub records_real : real s ≡ true → records_below seg start l (k + 1) ≡ records_below seg start l k ++ (record_of start l s ∷ [])
  unfolding records_below
  records_real r = rw (add-one k) (rw (← e) (rw r))

  pub records_skip : real s ≡ false → records_below seg start l (k + 1) ≡ records_below seg start l k
  unfolding records_below
  records_skip r = rw (add-one k) (rw (← e) (rw r))

-- what the loop keeps
pub record Filling (seg : ℕ → ProgramHeader) (start l k c : ℕ) (t₀ t : List ℕ) : Type 0 where
  pub counted : c ≡ length (records_below seg start l k)
  pub written : t ≡ table_bytes (records_below seg start l k) ++ drop (48 * c) t₀
  pub long : length t ≡ length t₀

pub fill_none : (seg : ℕ → ProgramHeader) (start l : ℕ) (t : List ℕ) → Filling seg start l 0 0 t t
unfolding records_below table_bytes
fill_none seg start l t = record { counted = refl; written = refl; long = refl }

module _ (seg : ℕ → ProgramHeader) (start l k : ℕ) (s : ProgramHeader) (e : s ≡ seg k) (c : ℕ) (t₀ t : List ℕ) (i : Filling seg start l k c t₀ t) where
  pub room : (n : ℕ) → real s ≡ true → k < n → 48 * count_below seg n ≤ length t₀ → 48 * c + 48 ≤ length t
  room n r lt h = omega (arith, i, length_records seg start l k, count_real seg k s e r, count_mono seg (k + 1) n (omega arith))

  pub fill_real : (t' : List ℕ) → real s ≡ true → (r : Record) → r ≡ record_of start l s → 48 * c + 48 ≤ length t → t' ≡ put (48 * c) (record_bytes r) t
      → Filling seg start l (k + 1) (c + 1) t₀ t'
  fill_real t' hr r er room_for et =
      let rs = records_below seg start l k in
      let rs' = records_below seg start l (k + 1) in
      let hs : rs' ≡ rs ++ (record_of start l s ∷ []) = records_real seg start l k s e hr in
      let n : length rs' ≡ length rs + 1 = ap length hs ∙ length-append rs (record_of start l s ∷ []) in
      let next : 48 * c + 48 ≡ 48 * (c + 1) = omega arith in
      let ts : t' ≡ table_bytes rs' ++ drop (48 * (c + 1)) t₀ =
      et ∙ ap₂ (λ (x : Record) (y : List ℕ). put (48 * c) (record_bytes x) y) er i.written
      ∙ table_turn rs (record_of start l s) (48 * c) t₀ (omega (arith, i.counted))
      ∙ ap₂ (λ (x : List Record) (y : ℕ). table_bytes x ++ drop y t₀) (sym hs) next in
      let len : length t' ≡ 48 * length rs' + (length t₀ - 48 * (c + 1)) = ap length ts ∙ length-append (table_bytes rs') (drop (48 * (c + 1)) t₀) ∙ ap₂ (λ (x y : ℕ). x + y) (length_table rs') (length-drop (48 * (c + 1)) t₀) in
      record { counted = omega (arith, i); written = ts; long = omega (arith, i) }

  pub fill_skip : real s ≡ false → Filling seg start l (k + 1) c t₀ t
  fill_skip hr =
      let hs = records_skip seg start l k s e hr in
      record { counted = i.counted ∙ ap length (sym hs); written = i.written ∙ ap (λ (x : List Record). table_bytes x ++ drop (48 * c) t₀) (sym hs); long = i.long }
