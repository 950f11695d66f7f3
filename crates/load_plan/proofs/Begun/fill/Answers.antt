-- `Begun::fill` meets its contract: the records of the segments before the k-th stand in the table.
-- Assumes nothing.
use Prim.Native.Nat.{ℕ, ◌+◌, ◌*◌, ◌≤◌}
use native.Mathlib.Omega.{arith}
use mathlib.Core.Path.{◌≡◌, refl, sym, ap, ap₂, ◌∙◌}
use mathlib.Core.Bool.{true}
use mathlib.Core.List.{List, ◌++◌}
use lib.ListN.{length, drop}
use Rattle.records.specs.Record.{table_bytes}
use Rattle.records.specs.declared.Record.{Record}
use Rattle.load_rules.specs.Facts.{Placed}
use Rattle.load_rules.specs.declared.View.{View}
use Rattle.load_plan.specs.Plan.{seg_at, records_below, plan_in}
use Rattle.load_plan.proofs.Order.{placed_at}
use Rattle.load_plan.proofs.Table.{room, fill_none, fill_real, fill_skip, plan_count}
use Rattle.load_plan.proofs.Begun.fill.Goals as goal
use Rattle.load_plan.proofs.Begun.fill.Goals.{then-is_real, else-is_real, After-is_real}

pub loop-k-init : goal.loop-k-init
loop-k-init c = fill_none _ _ _ _

-- the segment at hand lies in the window, and its record has room
here : (c : After-is_real) → c.is_real.result ≡ true → Placed c.view-view.result.low c.view-view.result.window c.header-s.result
here c real =
    let b = c.args.self.now in
    let d = c.requires in
    rw c.view-view.ensures (placed_at b.file.now b.job c.args.w _ c.loop-k.k c.header-s.result refl c.header-s.ensures (sym c.is_real.ensures ∙ real) d.window d.inside c.loop-k-test.true)

room_here : (c : After-is_real) → c.is_real.result ≡ true → 48 * c.loop-k.n + 48 ≤ length c.loop-k.table
room_here c real =
    let b = c.args.self.now in
    room (seg_at b.file.now b.job) c.view-view.result.window.start c.view-view.result.low c.loop-k.k c.header-s.result c.header-s.ensures c.loop-k.n c.args.table.now c.loop-k.table c.loop-k.invariant
    b.job.count (sym c.is_real.ensures ∙ real) c.loop-k-test.true (omega (arith, plan_count b.file.now c.args.w b.job, c.requires.room_enough))

pub record_of-requires : goal.record_of-requires
record_of-requires c = here (goal.at.record_of-requires c).After-is_real c.if-is_real.true

pub overflow_mul-n : goal.overflow_mul-n
overflow_mul-n c = omega (arith, room_here (goal.at.overflow_mul-n c).After-is_real c.if-is_real.true)

pub put-requires : goal.put-requires
put-requires c = room_here (goal.at.put-requires c).After-is_real c.if-is_real.true

pub overflow_add-n : goal.overflow_add-n
overflow_add-n c = omega (arith, room_here (goal.at.overflow_add-n c).After-is_real c.if-is_real.true)

pub loop-k-preserved : goal.loop-k-preserved
loop-k-preserved c =
    let b = c.args.self.now in
    let v = c.view-view.result in
    let seg = seg_at b.file.now b.job in
    let k = c.loop-k.k in
    let s = c.header-s.result in
    let e = c.header-s.ensures in
    let l = c.loop-k in
    elim c.if-is_real.branch [
      | then-is_real w ↦
          let real = sym c.is_real.ensures ∙ w.if-is_real.true in
          rw (w.n-is, w.table-is)
          (fill_real seg v.window.start v.low k s e l.n c.args.table.now l.table l.invariant w.put.new.t
          real w.record_of.result w.record_of.ensures (room_here (goal.at.loop-k-preserved c).After-is_real w.if-is_real.true) w.put.ensures)
      | else-is_real w ↦
          rw (w.n-is, w.table-is)
          (fill_skip seg v.window.start v.low k s e l.n c.args.table.now l.table l.invariant (sym c.is_real.ensures ∙ w.if-is_real.false))
    ]

pub returns : goal.returns
unfolding plan_in
returns c =
    let b = c.args.self.now in
    let l = c.loop-k in
    let i = l.invariant in
    let all : l.k ≡ b.job.count = omega arith in
    let rs : records_below (seg_at b.file.now b.job) c.view-view.result.window.start c.view-view.result.low l.k ≡ plan_in b.file.now c.args.w b.job =
    ap₂ (λ (x : View) (y : ℕ). records_below (seg_at b.file.now b.job) x.window.start x.low y) c.view-view.ensures all in
    let n = i.counted ∙ ap length rs in
    record {
      count = n;
      table = i.written ∙ ap₂ (λ (x : List Record) (y : ℕ). table_bytes x ++ drop y c.args.table.now) rs (ap (λ (n : ℕ). 48 * n) n);
    }
