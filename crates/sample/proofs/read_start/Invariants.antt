-- `sample::read_start` ends: each turn that goes on has read a byte more.
-- Assumes nothing.
use Rattle.std.proofs.Common.{◌-◌, ◌≤◌}
use Rattle.sample.proofs.read_start.Given as goal

abbrev pub invariant-loop-done : goal.invariant-loop-done
invariant-loop-done g l = l.done ≤ 4096

abbrev pub decreases-loop-done : goal.decreases-loop-done
decreases-loop-done g l = 4096 - l.done
