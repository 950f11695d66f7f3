-- `Begun::fill` meets its contract: the records of the segments before the k-th stand in the table.
-- Assumes nothing.
use Rattle.load_plan.specs.Plan.{seg_at}
use Rattle.load_plan.proofs.Table.{Filling}
use Rattle.load_plan.proofs.Begun.fill.Given as goal

abbrev pub invariant-loop-k : goal.invariant-loop-k
invariant-loop-k l = Filling (seg_at l.self.file.now l.self.job) l.view.window.start l.view.low l.k l.n l.initial.table l.table
