-- `hash::Noting::new` meets its contract: at first nothing is noted.
-- Assumes nothing.
use Rattle.string_table.proofs.Notes.{none_noted}
use Rattle.hash.proofs.Noting.new.Goals as goal

pub invariant_of-result : goal.invariant_of-result
invariant_of-result c = record { noted = none_noted _ _ }
