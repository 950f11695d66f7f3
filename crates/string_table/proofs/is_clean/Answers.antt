-- `string_table::is_clean` meets its contract: so far as the fold has come, it says whether the bytes are clean.
-- Assumes nothing.
use Rattle.std.proofs.Common.{rules, tests, ◌≡◌, ◌&&◌, not, refl, subst}
use lib.Dec.{eqb}
use Rattle.std.proofs.lemmas.Fn.{fold_over, slice_gives, fronts}
use Rattle.string_table.specs.Text.{is_clean}
use Rattle.string_table.proofs.Laws.{clean_more}
use Rattle.string_table.proofs.is_clean.Goals as goal

pub returns : goal.returns
unfolding is_clean
returns c =
    subst (λ l. c.fold.result ≡ is_clean l) c.iter.ensures.rest
    (fold_over fronts (λ y. y.now) _ (λ ys a. a ≡ is_clean ys) _
    (λ ys a x b f' h k. let e : b ≡ (a && not (eqb x.now 0)) = search (rules, tests) in (cc (clean_more ys x.now), search rules))
    _ _ _ _ (slice_gives c.iter.result) refl c.fold.ensures.ran)
