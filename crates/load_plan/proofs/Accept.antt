-- What an answer says: where there is no refusal no test holds, and a refusal leaves the table as it was.
-- Assumes nothing.
use Prim.Native.Nat.{ℕ, ◌*◌}
use mathlib.Core.Path.{◌≡◌, refl, sym, ap, ◌∙◌}
use mathlib.Core.Bool.{Bool, true, false, not, cond}
use mathlib.Core.List.{List}
use lib.ListN.{length}
use lib.Dec.{ltb}
use borrow.Author.Tests.{not-false, ltb-false}
use Rattle.std.specs.Prelude.{Result, Ok, Err, ⊤}
use Rattle.records.specs.declared.Record.{Record}
use Rattle.load_rules.specs.Rules.{any_below, low, good_window, unfit, skewed, outside, write_exec, holds_entry}
use Rattle.load_rules.specs.declared.Window.{Window}
use Rattle.load_plan.specs.declared.Job.{Job}
use Rattle.load_plan.specs.declared.refusal.Refusal.{Refusal}
use Rattle.load_plan.specs.declared.refusal.Refusal.TheVariants.{ShortTable, OtherKind, Unfit, Skewed, Outside, Clash, WriteExec, NoEntry}
use Rattle.load_plan.specs.Plan.{seg_at, some, clash_at, other, tests, plan_in, plan_of, records_in, verdict_of, answer_of, begun_of, table_after, ◌>>=◌, Made}
use Rattle.load_plan.specs.Facts.{Held, Accepted, Filled}
use Rattle.load_plan.proofs.Opening.{held}

-- a test that does not refuse did not hold
pub pass : (b : Bool) (r : Refusal) (rest : Result ⊤ Refusal) → cond b (Err r) rest ≡ Ok tt → (b ≡ false) × (rest ≡ Ok tt)
pass true r rest h = cc
pass false r rest h = (refl, h)

pub accepted : (f : List ℕ) (j : Job) (w : Window) (room : ℕ) → Held f j → verdict_of f j w room ≡ Ok tt → Accepted f j w room
unfolding verdict_of tests
accepted f j w room h e =
    let p2 = pass (other j.kind) OtherKind _ e in
    let p3 = pass (some f j (unfit (length f))) Unfit _ p2.1 in
    let p4 = pass (some f j skewed) Skewed _ p3.1 in
    let p5 = pass (not (good_window w)) Outside _ p4.1 in
    let p6 = pass (some f j (outside (low j.kind w) w.len)) Outside _ p5.1 in
    let p7 = pass (any_below (clash_at (seg_at f j)) j.count) Clash _ p6.1 in
    let p8 = pass (some f j write_exec) WriteExec _ p7.1 in
    let p9 = pass (not (some f j (holds_entry j.entry))) NoEntry _ p8.1 in
    let p10 = pass (ltb room (48 * length (plan_in f w j))) ShortTable _ p9.1 in
    record {
      held = h;
      kind = p2.0;
      sizes = p3.0;
      aligned = p4.0;
      window = not-false (good_window w) p5.0;
      inside = p6.0;
      ordered = p7.0;
      not_wx = p8.0;
      entered = not-false (some f j (holds_entry j.entry)) p9.0;
      room_enough = ltb-false room (48 * length (plan_in f w j)) p10.0;
    }

-- a file that can't be begun
pub made_closed : (f : List ℕ) (w : Window) (t : List ℕ) (r : Refusal) → begun_of f ≡ Err r → Made f w t t (Err r)
unfolding answer_of
made_closed f w t r e = record { answers = rw e; table = refl }

-- a file that is begun
module _ (f : List ℕ) (w : Window) (j : Job) (old : List ℕ) (b : begun_of f ≡ Ok j) where
  pub plan_is : plan_of f w ≡ plan_in f w j
  unfolding plan_of
  plan_is = ap (records_in f w) b

  pub made_planned : verdict_of f j w (length old) ≡ Ok tt → (n : ℕ) (new : List ℕ) → Filled (plan_in f w j) old new n → Made f w old new (Ok n)
  unfolding answer_of
  made_planned e n new p = record {
    answers = rw (b, e) (ap Ok p.count);
    table = p.table ∙ ap (λ (rs : List Record). table_after (Ok n) rs old) (sym plan_is);
  }

  pub made_refused : (r : Refusal) → verdict_of f j w (length old) ≡ Err r → Made f w old old (Err r)
  unfolding answer_of
  made_refused r e = record { answers = rw (b, e); table = refl }

-- ---- what a file that is planned is

pub record Begins (f : List ℕ) (w : Window) (room n : ℕ) : Type 0 where
  pub job : Job
  pub is_job : begun_of f ≡ Ok job
  pub accepted_is : Accepted f job w room
  pub count_is : n ≡ length (plan_in f w job)
  pub plan_is : plan_of f w ≡ plan_in f w job

pub planned : (f : List ℕ) (w : Window) (room n : ℕ) → Ok n ≡ answer_of f w room → Begins f w room n
unfolding answer_of plan_of
planned f w room n e = begins (begun_of f) refl e
  where
    verdict : (j : Job) → begun_of f ≡ Ok j → (v : Result ⊤ Refusal) → verdict_of f j w room ≡ v → Ok n ≡ (v >>= λ _. Ok (length (plan_in f w j))) → Begins f w room n
    verdict j p (Err r) v q = cc
    verdict j p (Ok tt) v q = record {
      job = j;
      is_job = p;
      accepted_is = accepted f j w room (held f j p) v;
      count_is = cc;
      plan_is = ap (records_in f w) p;
    }

    begins : (b : Result Job Refusal) → begun_of f ≡ b → Ok n ≡ (b >>= λ j. verdict_of f j w room >>= λ _. Ok (length (plan_in f w j))) → Begins f w room n
    begins (Err r) p q = cc
    begins (Ok j) p q = verdict j p (verdict_of f j w room) refl q
