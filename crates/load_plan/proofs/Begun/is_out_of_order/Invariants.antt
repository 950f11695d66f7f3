-- `Begun::is_out_of_order` meets its contract: `end` is where the pages of the segments before the k-th end.
-- Assumes nothing.
use Rattle.std.proofs.Common.{◌≡◌, ◌+◌, false}
use Rattle.load_rules.specs.Rules.{any_below}
use Rattle.load_plan.specs.Plan.{seg_at}
use Rattle.load_plan.specs.Facts.{crossed, end_below}
use Rattle.load_plan.proofs.Begun.is_out_of_order.Given as goal

abbrev pub invariant-loop-k : goal.invariant-loop-k
invariant-loop-k l =
    (l.end + l.view.low ≡ end_below (seg_at l.self.file.now l.self.job) l.view.low l.k) × (any_below (crossed (seg_at l.self.file.now l.self.job) l.view.low) l.k ≡ false)
