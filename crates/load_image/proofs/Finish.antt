-- From what `plan` and `carry_out` ensure to the outcome of loading.
-- Assumes nothing.
use Prim.Native.Nat.{ℕ, ◌*◌}
use mathlib.Core.Path.{◌≡◌, sym, ap, ap₂, ◌∙◌, subst}
use mathlib.Core.List.{List, ◌++◌}
use lib.ListN.{length, drop}
use Rattle.records.specs.Record.{table_bytes}
use Rattle.records.specs.declared.Record.{Record}
use Rattle.load_rules.specs.declared.Window.{Window}
use Rattle.load_plan.specs.Plan.{plan_in, plan_of, Made}
use Rattle.std.specs.Prelude.{Result, Ok, Err, ⊤}
use Rattle.load_plan.specs.declared.refusal.Refusal.{Refusal}
use Rattle.load_plan.proofs.Accept.{Begins, planned}
use Rattle.load_image.specs.Carry.{verdict_of, carried_below, CarriedOut}
use Rattle.load_image.specs.Image.{Loaded, SafeRecords, Done}
use Rattle.load_image.proofs.Laws.{carries}
use Rattle.load_image.proofs.Segments.{safe_segments}
use Rattle.load_image.proofs.Table.{safe_records, sound_table, all_loaded}

module _ (f : List ℕ) (w : Window) (table table' : List ℕ) (n : ℕ) (p : Made f w table table' (Ok n)) where
  pub begins : Begins f w (length table) n
  begins = planned f w (length table) n p.answers

  pub rest : List ℕ
  rest = drop (48 * length (plan_of f w)) table

  pub table_is : table' ≡ table_bytes (plan_in f w begins.job) ++ rest
  unfolding rest
  table_is = p.table ∙ ap (λ (rs : List Record). table_bytes rs ++ drop (48 * length (plan_of f w)) table) begins.plan_is

  -- a plan that is made can be executed blind
  pub safe_plan : SafeRecords f begins.job w table' n
  safe_plan =
      let j = begins.job in
      subst (λ (t : List ℕ). SafeRecords f j w t n) (sym table_is)
      (subst (λ (k : ℕ). SafeRecords f j w (table_bytes (plan_in f w j) ++ rest) k) (sym begins.count_is) (safe_records f j w (length table) begins.accepted_is rest))

  -- and nothing of it is refused
  pub carried : (old : List ℕ) → length old ≡ w.len → verdict_of w (length f) table' n (length old) ≡ Ok tt
  carried old hm =
      let j = begins.job in
      let rs = plan_in f w j in
      ap₂ (λ (t : List ℕ) (k : ℕ). verdict_of w (length f) t k (length old)) table_is begins.count_is
      ∙ carries w (length f) (table_bytes rs ++ rest) (length rs) (length old) (sound_table f j w (length table) begins.accepted_is rest (length old) hm)

  pub not_refused : (old : List ℕ) → length old ≡ w.len → (r : Refusal) → Err r ≡ verdict_of w (length f) table' n (length old) → ⊥
  not_refused old hm r e = let z : ◌≡◌ {A = Result ⊤ Refusal} (Err r) (Ok tt) = e ∙ carried old hm in cc

  accepted : (old new : List ℕ) → length old ≡ w.len → CarriedOut f w table' n old new (Ok tt) → Done f w table' n old new
  accepted old new hm c =
      let j = begins.job in
      let acc = begins.accepted_is in
      let rs = plan_in f w j in
      let e : new ≡ carried_below w.start f (table_bytes rs ++ rest) (length rs) old =
      c.memory ∙ ap₂ (λ (t : List ℕ) (k : ℕ). carried_below w.start f t k old) table_is begins.count_is in
      record {
        job = j;
        is_job = begins.is_job;
        segments = safe_segments f j w (length table) acc;
        pieces = safe_plan;
        image = subst (λ (z : List ℕ). Loaded f j w old z) (sym e) (all_loaded f j w (length table) acc rest old hm);
      }

  -- what is said of carrying it out, whatever the answer: it is not refused
  pub done : (old new : List ℕ) (r : Result ⊤ Refusal) → length old ≡ w.len → CarriedOut f w table' n old new r → Done f w table' n old new
  done old new r hm c = accepted old new hm (subst (λ (d : Result ⊤ Refusal). CarriedOut f w table' n old new d) (c.answers ∙ carried old hm) c)
