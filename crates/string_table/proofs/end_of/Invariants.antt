-- `string_table::end_of` meets its contract. The invariant: what is left of the search finds what the whole search finds.
-- Assumes nothing.
use Rattle.std.proofs.Common.{◌≡◌, ◌-◌, length}
use Rattle.parse.specs.First.{first_from}
use Rattle.string_table.specs.Text.{is_zero, end_of}
use Rattle.string_table.proofs.end_of.Given as goal

abbrev pub invariant-loop-i : goal.invariant-loop-i
invariant-loop-i l = first_from (is_zero l.t) (length l.t - l.i) l.i ≡ end_of l.t l.o
