-- `Begun::any` meets its contract: no segment before the k-th passes the test.
-- Assumes nothing.
use mathlib.Core.Path.{refl, sym, ap, ◌∙◌}
use Rattle.load_rules.specs.Rules.{any_below}
use Rattle.load_rules.proofs.Tests.{none_more, some_at}
use Rattle.load_plan.specs.Plan.{seg_at, passes}
use Rattle.load_plan.proofs.Begun.any.Goals as goal

pub loop-k-init : goal.loop-k-init
unfolding any_below
loop-k-init g c = λ p h. refl

pub returns-then-test : goal.returns-then-test
unfolding passes
returns-then-test g c = λ p h.
    let b = c.args.self.now in
    sym (some_at (passes p (seg_at b.file.now b.job)) b.job.count c.loop-k.k
    (ap p (sym c.header.ensures) ∙ sym (h c.header.result c.test.result c.test.ensures) ∙ c.if-test.true) c.loop-k-test.true)

pub loop-k-preserved : goal.loop-k-preserved
unfolding passes
loop-k-preserved g c = λ p h.
    let b = c.args.self.now in
    none_more (passes p (seg_at b.file.now b.job)) c.loop-k.k (c.loop-k.invariant p h)
    (ap p (sym c.header.ensures) ∙ sym (h c.header.result c.test.result c.test.ensures) ∙ c.if-test.false)
