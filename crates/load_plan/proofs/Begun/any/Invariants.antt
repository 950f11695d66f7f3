-- `Begun::any` meets its contract: no segment before the k-th passes the test.
-- Assumes nothing.
use Rattle.std.proofs.Common.{◌≡◌, Bool, false}
use Rattle.segment.specs.declared.ProgramHeader.{ProgramHeader}
use Rattle.load_rules.specs.Rules.{any_below}
use Rattle.load_plan.specs.Plan.{seg_at, passes}
use Rattle.load_plan.proofs.Begun.any.Given as goal

abbrev pub invariant-loop-k : goal.invariant-loop-k
invariant-loop-k g l = (p : ProgramHeader → Bool) → ((s : ProgramHeader) (r : Bool) → goal.P-post g l.test s r → r ≡ p s)
    → any_below (passes p (seg_at l.self.file.now l.self.job)) l.k ≡ false
