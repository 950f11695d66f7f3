-- `parse::first_kind` meets its contract. The invariant: what is left of the search finds what the whole search finds.
-- Assumes nothing.
use Rattle.std.proofs.Common.{◌≡◌, ◌-◌}
use Rattle.parse.specs.First.{first_from, first_kind, is_kind}
use Rattle.parse.proofs.first_kind.Given as goal

abbrev pub invariant-loop-i : goal.invariant-loop-i
invariant-loop-i l = first_from (is_kind l.order l.t l.size l.at l.kind) (l.i-end - l.i) l.i ≡ first_kind l.order l.t l.size l.at l.kind
