-- `any` meets its contract: no record before the k-th passes the test.
-- Assumes nothing.
use Rattle.std.proofs.Common.{◌≡◌, Bool, false}
use Rattle.records.specs.declared.Record.{Record}
use Rattle.load_rules.specs.Rules.{any_below}
use Rattle.load_image.specs.Carry.{passes}
use Rattle.load_image.proofs.any.Given as goal

abbrev pub invariant-loop-k : goal.invariant-loop-k
invariant-loop-k g l = (p : Record → Bool) → ((s : Record) (r : Bool) → goal.P-post g l.test s r → r ≡ p s) → any_below (passes p l.t) l.k ≡ false
