-- `string_table::last_zero` meets its contract: what the library's search from the back found is the last zero byte.
-- Assumes nothing.
use Rattle.std.proofs.Common.{rules, tests}
use lib.ListN.{length}
use Rattle.string_table.specs.Text.{is_zero, last_zero}
use Rattle.string_table.proofs.Search.{last_is}
use Rattle.string_table.proofs.last_zero.Goals as goal

pub returns : goal.returns
unfolding last_zero
returns c =
    let t = c.args.t.now in
    last_is (is_zero t) (length t) c.rposition.result
    (λ e q. (search rules, search (rules, tests), λ j a b. search (rules, tests)))
    (λ q j a. search (rules, tests))
