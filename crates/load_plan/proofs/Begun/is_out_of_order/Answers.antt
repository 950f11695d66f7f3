-- `Begun::is_out_of_order` meets its contract: `end` is where the pages of the segments before the k-th end.
-- Assumes nothing.
use Prim.Native.Nat.{ℕ, ◌+◌}
use native.Mathlib.Omega.{arith}
use mathlib.Core.Path.{◌≡◌, refl, sym, ap, ◌∙◌}
use mathlib.Core.Bool.{true}
use Rattle.load_rules.specs.Rules.{any_below}
use Rattle.load_rules.specs.Facts.{Placed}
use Rattle.load_rules.proofs.Tests.{none_more, some_at}
use Rattle.load_plan.specs.Plan.{seg_at}
use Rattle.load_plan.specs.Facts.{crossed, end_below}
use Rattle.load_plan.proofs.Clash.{order_is}
use Rattle.load_plan.proofs.Order.{placed_at, end_real, end_skip, crossed_skip, crossed_yes, crossed_no}
use Rattle.load_plan.proofs.Begun.is_out_of_order.Goals as goal
use Rattle.load_plan.proofs.Begun.is_out_of_order.Goals.{then-is_real+else-first_page-end, else-is_real, After-is_real}

pub loop-k-init : goal.loop-k-init
unfolding end_below any_below
loop-k-init c = (omega arith, refl)

-- the segment at hand lies in the window
here : (c : After-is_real) → c.is_real.result ≡ true → Placed c.args.view.low c.args.view.window c.header-s.result
here c real =
    let b = c.args.self.now in
    let v = c.args.view in
    let d = c.requires in
    placed_at b.file.now b.job v.window v.low c.loop-k.k c.header-s.result
    d.low c.header-s.ensures (sym c.is_real.ensures ∙ real) d.window d.inside c.loop-k-test.true

pub first_page-requires : goal.first_page-requires
first_page-requires c = (here (goal.at.first_page-requires c).After-is_real c.if-is_real.true).low

pub returns-then-first_page-end : goal.returns-then-first_page-end
returns-then-first_page-end c =
    let b = c.args.self.now in
    let v = c.args.view in
    let d = c.requires in
    let seg = seg_at b.file.now b.job in
    let p = here (goal.at.returns-then-first_page-end c).After-is_real c.if-is_real.true in
    sym (sym (order_is b.file.now b.job v.window v.low d.low d.window d.inside)
    ∙ some_at (crossed seg v.low) b.job.count c.loop-k.k
    (crossed_yes seg v.low c.loop-k.k c.loop-k.end c.header-s.result c.header-s.ensures
    (sym c.is_real.ensures ∙ c.if-is_real.true) p.page p.low c.loop-k.invariant.0 (omega (arith, c.first_page.ensures, c.if-first_page-end.true)))
    c.loop-k-test.true)

pub last_page-end-requires : goal.last_page-end-requires
last_page-end-requires c = let p = here (goal.at.last_page-end-requires c).After-is_real c.if-is_real.true in omega (arith, p.low, p.high, p.window_good.len_small)

pub loop-k-preserved : goal.loop-k-preserved
loop-k-preserved c =
    let b = c.args.self.now in
    let l = c.args.view.low in
    let seg = seg_at b.file.now b.job in
    let k = c.loop-k.k in
    let end = c.loop-k.end in
    let s = c.header-s.result in
    let e = c.header-s.ensures in
    let r = c.is_real.ensures in
    let i = c.loop-k.invariant in
    elim c.if-is_real.branch [
      | then-is_real+else-first_page-end w ↦
          let p = here (goal.at.loop-k-preserved c).After-is_real w.if-is_real.true in
          let rl = sym r ∙ w.if-is_real.true in (
            ap (λ (n : ℕ). n + l) (w.end-is ∙ w.last_page-end.ensures) ∙ end_real seg l k end s e rl p.page p.low,
            none_more (crossed seg l) k i.1 (crossed_no seg l k end s e rl p.page p.low i.0 (omega (arith, w.first_page.ensures, w.if-first_page-end.false))),
          )
      | else-is_real w ↦
          let rl = sym r ∙ w.if-is_real.false in (
            ap (λ (n : ℕ). n + l) w.end-is ∙ end_skip seg l k end s e rl i.0,
            none_more (crossed seg l) k i.1 (crossed_skip seg l k end s e rl),
          )
    ]

pub returns : goal.returns
returns c =
    let b = c.args.self.now in
    let v = c.args.view in
    let d = c.requires in
    let all : c.loop-k.k ≡ b.job.count = omega arith in
    sym (sym (order_is b.file.now b.job v.window v.low d.low d.window d.inside)
    ∙ ap (any_below (crossed (seg_at b.file.now b.job) v.low)) (sym all) ∙ c.loop-k.invariant.1)
