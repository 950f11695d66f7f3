-- `string_table::same_short` meets its contract: a byte that differs decides, and none does where all have matched.
-- Assumes nothing.
use native.Mathlib.Omega.{arith}
use Prim.Native.Nat.{◌-◌}
use mathlib.Core.Path.{sym}
use Rattle.string_table.proofs.Runs.{run_matched, run_other, byte_matched}
use Rattle.string_table.proofs.same_short.Goals as goal

pub returns-then-t-o : goal.returns-then-t-o
returns-then-t-o c = sym (run_other _ _ _ (λ m. c.if-t-o.true (m (c.loop-k.k - 1) (omega arith) (omega arith))))

pub loop-k-preserved : goal.loop-k-preserved
loop-k-preserved c =
    let a = c.args in
    (omega arith, byte_matched a.t.now a.o a.name.now _ c.if-t-o.false c.loop-k.invariant.1)

pub returns : goal.returns
returns c = sym (run_matched _ _ _ c.requires (λ j p q. c.loop-k.invariant.1 j (omega arith) q))
