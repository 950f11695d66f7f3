-- `common::gather` meets its contract. The invariant: the sections before the i-th give what was gathered.
-- Assumes nothing.
use Rattle.std.proofs.Common.{◌≡◌, Ok}
use Rattle.common.specs.Common.{below_of}
use Rattle.common.proofs.gather.Given as goal

abbrev pub invariant-loop-i : goal.invariant-loop-i
invariant-loop-i l = below_of l.file.bytes.now l.file.elf l.i ≡ Ok l.c
