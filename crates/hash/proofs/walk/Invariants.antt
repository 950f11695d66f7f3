-- `hash::walk` meets its contract. The invariant: what is left of the walk answers what the whole walk answers, and a turn finds what
-- it found at first.
-- Assumes nothing.
use Rattle.std.proofs.Common.{◌≡◌, ◌-◌}
use Rattle.hash.specs.Find.{walk_by}
use Rattle.hash.proofs.walk.Given as goal

abbrev pub invariant-loop-taken : goal.invariant-loop-taken
invariant-loop-taken g l =
    (walk_by (g.T.Turning.at l.fn.turns) (l.most - l._taken) l.i ≡ walk_by (g.T.Turning.at l.fn.turns) l.most l.start)
    × (g.T.Turning.at l.turns ≡ g.T.Turning.at l.fn.turns)
