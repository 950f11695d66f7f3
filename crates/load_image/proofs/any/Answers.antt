-- `any` meets its contract: no record before the k-th passes the test.
-- Assumes nothing.
use mathlib.Core.Path.{refl, sym, ap, ◌∙◌}
use Rattle.load_rules.specs.Rules.{any_below}
use Rattle.load_rules.proofs.Tests.{none_more, some_at}
use Rattle.load_image.specs.Carry.{passes}
use Rattle.load_image.proofs.any.Goals as goal

pub loop-k-init : goal.loop-k-init
unfolding any_below
loop-k-init g c = λ p h. refl

pub returns-then-test : goal.returns-then-test
unfolding passes
returns-then-test g c = λ p h.
    sym (some_at (passes p c.args.t.now) c.args.n c.loop-k.k
    (ap p (sym c.read.ensures) ∙ sym (h c.read.result c.test.result c.test.ensures) ∙ c.if-test.true) c.loop-k-test.true)

pub loop-k-preserved : goal.loop-k-preserved
unfolding passes
loop-k-preserved g c = λ p h.
    none_more (passes p c.args.t.now) c.loop-k.k (c.loop-k.invariant p h)
    (ap p (sym c.read.ensures) ∙ sym (h c.read.result c.test.result c.test.ensures) ∙ c.if-test.false)
