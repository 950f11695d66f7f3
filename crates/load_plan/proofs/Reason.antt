-- No file is refused but for a listed reason, and the number is the smallest that applies; 14 comes last.
-- A stricter list of tests accepts only what a shorter one accepts.
-- Assumes nothing.
use Prim.Native.Nat.{ℕ, ◌*◌, ◌≤◌}
use native.Mathlib.Nat.{le_trans}
use native.Mathlib.Omega.{arith}
use mathlib.Core.Path.{◌≡◌, refl, sym, ◌∙◌}
use mathlib.Core.Bool.{Bool, true, false, cond, true≢false}
use mathlib.Core.List.{List, [], ◌∷◌, ◌++◌}
use mathlib.Core.Logic.{◌⊎◌, inl, inr, ⊎_elim}
use lib.ListN.{length}
use lib.Dec.{ltb}
use Rattle.std.specs.Prelude.{Ok, Err}
use Rattle.load_rules.specs.declared.Window.{Window}
use Rattle.load_plan.specs.Refusal.{number_of}
use Rattle.load_plan.specs.declared.Job.{Job}
use Rattle.load_plan.specs.declared.refusal.Refusal.{Refusal}
use Rattle.load_plan.specs.declared.refusal.Refusal.TheVariants.{ShortTable}
use Rattle.load_plan.specs.Plan.{first_of, tests, plan_in, verdict_of}
use Rattle.load_plan.specs.Reason.{Holds, Ascends}

-- the refusal of a list is that of a test that holds
pub first_holds : {R : Type 0} (ts : List (Bool × R)) (r : R) → first_of ts ≡ Err r → Holds ts r
first_holds [] r h = cc
first_holds (t ∷ ts) r h = go (first_holds ts r) t.0 refl h
  where
    go : (first_of ts ≡ Err r → Holds ts r) → (b : Bool) → t.0 ≡ b → cond b (Err t.1) (first_of ts) ≡ Err r → ((t.0 ≡ true) × (t.1 ≡ r)) ⊎ Holds ts r
    go ih true e p = inl (e, cc)
    go ih false e p = inr (ih p)

above : {R : Type 0} (number : R → ℕ) (m : ℕ) (ts : List (Bool × R)) (r : R) → Ascends number m ts → Holds ts r → m ≤ number r
above number m [] r p q = absurd q
above number m (t ∷ ts) r p q = ⊎_elim (λ x. rw (← x.1) p.0) (λ x. le_trans p.0 (above number (number t.1) ts r p.1 x)) q

-- and of the smallest number, where the numbers ascend, whatever comes behind the list
pub first_least : {R : Type 0} (number : R → ℕ) (m : ℕ) (ts us : List (Bool × R)) (r : R) → Ascends number m ts → Holds ts r
    → (q : R) × (first_of (ts ++ us) ≡ Err q) × (m ≤ number q) × (number q ≤ number r)
first_least number m [] us r a h = absurd h
first_least {R = R} number m (t ∷ ts) us r a h = go (first_least number (number t.1) ts us r a.1) t.0 refl h
  where
    go : (Holds ts r → (q : R) × (first_of (ts ++ us) ≡ Err q) × (number t.1 ≤ number q) × (number q ≤ number r)) → (b : Bool) → t.0 ≡ b → ((t.0 ≡ true) × (t.1 ≡ r)) ⊎ Holds ts r
        → (q : R) × (cond b (Err t.1) (first_of (ts ++ us)) ≡ Err q) × (m ≤ number q) × (number q ≤ number r)
    go ih true e h = (t.1, refl, a.0, ⊎_elim (λ x. rw x.1 (omega arith)) (λ x. above number (number t.1) ts r a.1 x) h)
    go ih false e h = ⊎_elim
        (λ x. absurd (true≢false (sym x.0 ∙ e)))
        (λ x. let s = ih x in (s.0, s.1, le_trans a.0 s.2, s.3))
        h

ascending : (f : List ℕ) (j : Job) (w : Window) → Ascends number_of 21 (tests f j w)
unfolding tests
ascending f j w = (omega arith, (omega arith, (omega arith, (omega arith, (omega arith, (omega arith, (omega arith, (omega arith, tt))))))))

-- a test that stands for r holds: the file is refused, and with no larger number
pub smallest : (f : List ℕ) (j : Job) (w : Window) (room : ℕ) (r : Refusal) → Holds (tests f j w) r
    → (q : Refusal) × (verdict_of f j w room ≡ Err q) × (21 ≤ number_of q) × (number_of q ≤ number_of r)
unfolding verdict_of
smallest f j w room r h = first_least number_of 21 (tests f j w) ((ltb room (48 * length (plan_in f w j)), ShortTable) ∷ []) r (ascending f j w) h

-- a refusal has a reason
pub reason : (f : List ℕ) (j : Job) (w : Window) (room : ℕ) (r : Refusal) → verdict_of f j w room ≡ Err r → Holds (tests f j w ++ ((ltb room (48 * length (plan_in f w j)), ShortTable) ∷ [])) r
unfolding verdict_of
reason f j w room r h = first_holds (tests f j w ++ ((ltb room (48 * length (plan_in f w j)), ShortTable) ∷ [])) r h

-- for a stricter mode: a file that a list of tests with one more test accepts is accepted without it
pub fewer_tests : {R : Type 0} (a b : List (Bool × R)) (t : Bool × R) → first_of (a ++ (t ∷ b)) ≡ Ok tt → first_of (a ++ b) ≡ Ok tt
fewer_tests [] b t h = go t.0 h
  where
    go : (x : Bool) → cond x (Err t.1) (first_of b) ≡ Ok tt → first_of b ≡ Ok tt
    go true e = cc
    go false e = e
fewer_tests (u ∷ a) b t h = go (fewer_tests a b t) u.0 h
  where
    go : (first_of (a ++ (t ∷ b)) ≡ Ok tt → first_of (a ++ b) ≡ Ok tt) → (x : Bool) → cond x (Err u.1) (first_of (a ++ (t ∷ b))) ≡ Ok tt → cond x (Err u.1) (first_of (a ++ b)) ≡ Ok tt
    go ih true e = cc
    go ih false e = ih e
