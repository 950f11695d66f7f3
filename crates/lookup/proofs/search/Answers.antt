-- `lookup::search` meets its contract: nothing is noted at first.
-- Assumes nothing.
use Rattle.std.proofs.Math.Nat.{sub-zero}
use Rattle.string_table.proofs.Notes.{none_noted}
use Rattle.lookup.specs.Lookup.{first_named}
use Rattle.lookup.proofs.search.Goals as goal

pub loop-i-init : goal.loop-i-init
unfolding first_named
loop-i-init c = record { rest = rw sub-zero; noted = none_noted _ _ }
