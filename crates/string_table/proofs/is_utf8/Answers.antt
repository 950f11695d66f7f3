-- `string_table::is_utf8` meets its contract: so far as the fold has come, it says what must follow the bytes that have come.
-- Assumes nothing.
use Rattle.std.proofs.Common.{rules, ◌≡◌, subst}
use lib.Dec.{eqb}
use Rattle.std.proofs.lemmas.Fn.{fold_over, slice_gives, fronts}
use Rattle.string_table.specs.Utf8.{awaited, step_of, well_formed}
use Rattle.string_table.proofs.Sequences.{Passed, passed_more, passed_all}
use Rattle.string_table.proofs.is_utf8.Goals as goal

pub returns : goal.returns
returns c =
    subst (λ l. eqb c.fold.result.more 0 ≡ well_formed l) c.iter.ensures.rest
    (passed_all _ _ (fold_over fronts (λ y. y.now) _ (λ ys a. Passed ys (awaited a)) _
    (λ ys a x b f' h k. let e : awaited b ≡ step_of (awaited a) x.now = search rules in (passed_more ys x.now (awaited a) (awaited b) h e, search rules))
    _ _ _ _ (slice_gives c.iter.result) (λ rest. rw c.awaits.ensures) c.fold.ensures.ran))
