-- Narrow: two files that are alike where the plan reads get the same refusal or the same records.
-- Assumes nothing.
use Prim.Native.Nat.{ℕ, zero, suc, ◌+◌, ◌*◌, ◌≤◌, ◌<◌}
use native.Mathlib.Nat.{mul-le-mul_right, suc-mul}
use native.Mathlib.Omega.{arith}
use mathlib.Core.Path.{◌≡◌, refl, sym, ap, ap₂, ◌∙◌}
use mathlib.Core.Bool.{Bool, ◌||◌, cond}
use mathlib.Core.List.{List, [], ◌∷◌, ◌++◌}
use lib.ListN.{length}
use lib.Dec.{leb}
use Rattle.std.specs.Prelude.{Result, Ok, Err, ⊤}
use Rattle.endian.specs.Place.{size_of, program_header}
use Rattle.endian.specs.declared.fault.Fault.{Fault}
use Rattle.segment.specs.declared.ProgramHeader.{ProgramHeader}
use Rattle.segment.proofs.Alike.{segment_same}
use Rattle.elf_bytes.specs.declared.Elf.{Elf}
use Rattle.elf_bytes.proofs.Alike.{open_same}
use Rattle.records.specs.declared.Record.{Record}
use Rattle.load_rules.specs.Rules.{max_file, any_below, low, real, record_of, unfit, skewed, outside, write_exec, holds_entry}
use Rattle.load_rules.specs.declared.Window.{Window}
use Rattle.load_plan.specs.declared.Job.{Job}
use Rattle.load_plan.specs.declared.refusal.Refusal.{Refusal}
use Rattle.load_plan.specs.declared.refusal.Refusal.TheVariants.{TooLong}
use Rattle.load_plan.specs.Plan.{begun_of, begun_in, seg_at, passes, some, clash, clash_with, clash_at, tests, verdict_of, records_below, plan_in, plan_of, records_in, answer_of, table_after, ◌>>=◌, Made}
use Rattle.load_plan.specs.Narrow.{Alike}

begun_same : (f g : List ℕ) → Alike f g → begun_of f ≡ begun_of g
unfolding begun_of
begun_same f g a = ap₂ (λ (n : ℕ) (o : Result Elf Fault). cond (leb n max_file) (begun_in o) (Err TooLong)) a.head.same_length (open_same f g a.head)

-- ---- the tests and the records

any_same : (p q : ℕ → Bool) (n : ℕ) → ((k : ℕ) → k < n → p k ≡ q k) → any_below p n ≡ any_below q n
unfolding any_below
any_same p q zero h = refl
any_same p q (suc n) h = ap₂ (λ (a b : Bool). a || b) (any_same p q n (λ k lt. h k (omega arith))) (h n (omega arith))

records_same : (s t : ℕ → ProgramHeader) (start l n : ℕ) → ((k : ℕ) → k < n → s k ≡ t k) → records_below s start l n ≡ records_below t start l n
unfolding records_below
records_same s t start l zero h = refl
records_same s t start l (suc n) h =
    ap₂ (λ (x : ProgramHeader) (rs : List Record). cond (real x) (rs ++ (record_of start l x ∷ [])) rs) (h n (omega arith)) (records_same s t start l n (λ k lt. h k (omega arith)))

module _ (f g : List ℕ) (a : Alike f g) (w : Window) (j : Job) (b : begun_of f ≡ Ok j) where
  seg_same : (k : ℕ) → k < j.count → seg_at f j k ≡ seg_at g j k
  unfolding seg_at
  seg_same k lt =
      let size = size_of program_header j.class in
      let m : suc k * size ≤ j.count * size = mul-le-mul_right size lt in
      let n : k * size + size ≤ j.count * size = rw suc-mul at m in
      segment_same j.class j.order f g (j.from + k * size) (λ i p q. a.segments j b i (omega arith) (omega arith))

  some_same : (p : ProgramHeader → Bool) → some f j p ≡ some g j p
  unfolding passes
  some_same p = any_same (passes p (seg_at f j)) (passes p (seg_at g j)) j.count (λ k lt. ap p (seg_same k lt))

  clash_same : any_below (clash_at (seg_at f j)) j.count ≡ any_below (clash_at (seg_at g j)) j.count
  unfolding clash_at clash_with
  clash_same =
      any_same (clash_at (seg_at f j)) (clash_at (seg_at g j)) j.count
      (λ k lt. any_same (clash_with (seg_at f j) k) (clash_with (seg_at g j) k) k (λ i lt'. ap₂ clash (seg_same i (omega arith)) (seg_same k lt)))

  plan_same : plan_in f w j ≡ plan_in g w j
  unfolding plan_in
  plan_same = records_same (seg_at f j) (seg_at g j) w.start (low j.kind w) j.count seg_same

  verdict_is : (room : ℕ) → verdict_of f j w room ≡ verdict_of g j w room
  unfolding verdict_of tests
  verdict_is room = rw (
    some_same (unfit (length f)),
    a.head.same_length,
    some_same skewed,
    some_same (outside (low j.kind w) w.len),
    clash_same,
    some_same write_exec,
    some_same (holds_entry j.entry),
    plan_same,
  )

module _ (f g : List ℕ) (a : Alike f g) (w : Window) where
  answer_same : (room : ℕ) → answer_of f w room ≡ answer_of g w room
  unfolding answer_of
  answer_same room = go (begun_of f) refl ∙ ap (λ (b : Result Job Refusal). b >>= told g) (begun_same f g a)
    where
      told : List ℕ → Job → Result ℕ Refusal
      told s j = verdict_of s j w room >>= λ _. Ok (length (plan_in s w j))

      go : (b : Result Job Refusal) → begun_of f ≡ b → (b >>= told f) ≡ (b >>= told g)
      go (Err r) p = refl
      go (Ok j) p = ap₂ (λ (v : Result ⊤ Refusal) (rs : List Record). v >>= λ _. Ok (length rs)) (verdict_is f g a w j p room) (plan_same f g a w j p)

  records_are : plan_of f w ≡ plan_of g w
  unfolding plan_of
  records_are = go (begun_of f) refl ∙ ap (records_in g w) (begun_same f g a)
    where
      go : (b : Result Job Refusal) → begun_of f ≡ b → records_in f w b ≡ records_in g w b
      go (Err r) p = refl
      go (Ok j) p = plan_same f g a w j p

  -- the same answer, and the same table
  pub narrow : (old new new' : List ℕ) (r r' : Result ℕ Refusal) → Made f w old new r → Made g w old new' r' → (r ≡ r') × (new ≡ new')
  narrow old new new' r r' p q =
      let e : r ≡ r' = p.answers ∙ answer_same (length old) ∙ sym q.answers in
      (e, p.table ∙ ap₂ (λ (x : Result ℕ Refusal) (rs : List Record). table_after x rs old) e records_are ∙ sym q.table)
