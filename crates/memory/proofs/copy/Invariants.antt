-- `memory::copy` meets its contract. The invariant: the first i bytes are those of the other run.
-- Assumes nothing.
use Rattle.std.proofs.Common.{◌≡◌, length, take}
use Rattle.memory.proofs.copy.Given as goal

abbrev pub invariant-loop-i : goal.invariant-loop-i
invariant-loop-i l = record {
  length : length l.s ≡ length l.initial.s;
  copied : take l.i l.s ≡ take l.i l.from;
}
