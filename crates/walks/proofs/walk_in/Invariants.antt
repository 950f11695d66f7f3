-- `walks::walk_in` meets its contract. The invariant: the rows of the entries passed stand in front, and the rest is as it was.
-- Assumes nothing.
use Rattle.std.proofs.Common.{◌≡◌, ◌*◌, ◌++◌, drop}
use Rattle.walks.specs.Walk.{rows_from}
use Rattle.walks.proofs.walk_in.Given as goal

abbrev pub invariant-loop-k : goal.invariant-loop-k
invariant-loop-k g l = l.out ≡ rows_from (λ i. g.E.Row.values (g.E.ParseAt.at l.class l.order l.t (i * g.E.ParseAt.size l.class))) l.from l.k ++ drop (l.k * g.row.N) l.initial.out
