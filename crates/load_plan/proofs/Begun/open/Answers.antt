-- `Begun::open` meets its contract: the program headers of a file that is begun lie in it.
-- Assumes nothing.
use native.Mathlib.Omega.{arith}
use mathlib.Core.Path.{sym, ◌∙◌}
use Rattle.load_plan.proofs.Opening.{held_at}
use Rattle.load_plan.proofs.Begun.open.Goals as goal

pub invariant_of-result : goal.invariant_of-result
invariant_of-result c = record {
  held = held_at c.args.file.now c.in_ok-elf.elf c.in_ok-table.table c.count-count.result
      (omega arith)
      (sym c.open.ensures ∙ c.in_ok-elf.was)
      (grind arith)
      (rw (← c.size_of.ensures) c.count-count.ensures);
}
