-- `Begun::count` meets its contract: the segments before the k-th are counted.
-- Assumes nothing.
use Rattle.std.proofs.Common.{◌≡◌, ◌≤◌}
use Rattle.load_plan.specs.Plan.{seg_at}
use Rattle.load_plan.specs.Facts.{count_below}
use Rattle.load_plan.proofs.Begun.count.Given as goal

abbrev pub invariant-loop-k : goal.invariant-loop-k
invariant-loop-k l = (l.n ≡ count_below (seg_at l.self.file.now l.self.job) l.k) × (l.n ≤ l.k)
