-- `string_table::same_short` meets its contract. The invariant: from k on the bytes of the name are those of the table.
-- Assumes nothing.
use Prim.Native.Nat.{◌≤◌}
use lib.ListN.{length}
use Rattle.string_table.proofs.Runs.{Matched}
use Rattle.string_table.proofs.same_short.Given as goal

abbrev pub invariant-loop-k : goal.invariant-loop-k
invariant-loop-k l = (l.k ≤ length l.name) × Matched l.t l.o l.name l.k

abbrev pub decreases-loop-k : goal.decreases-loop-k
decreases-loop-k l = l.k
