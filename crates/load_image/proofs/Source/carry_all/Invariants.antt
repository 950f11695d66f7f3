-- `Source::carry_all` meets its contract: the records before the k-th are carried out.
-- Assumes nothing.
use Rattle.std.proofs.Common.{◌≡◌}
use Rattle.load_image.specs.Carry.{carried_below}
use Rattle.load_image.proofs.Source.carry_all.Given as goal

abbrev pub invariant-loop-k : goal.invariant-loop-k
invariant-loop-k l = l.m ≡ carried_below l.self.start l.self.file.now l.t l.k l.initial.m
