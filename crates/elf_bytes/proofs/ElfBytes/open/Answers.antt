-- `elf_bytes::ElfBytes::open`: the tables of an opened file lie in its bytes.
-- Assumes nothing.
use Rattle.std.proofs.Common.{sym, ◌∙◌}
use Rattle.elf_bytes.proofs.Laws.{opened}
use Rattle.elf_bytes.proofs.ElfBytes.open.Goals as goal

pub invariant_of-result : goal.invariant_of-result
invariant_of-result c = record { whole = opened _ _ (sym c.open.ensures ∙ c.in_ok-elf.was) }
