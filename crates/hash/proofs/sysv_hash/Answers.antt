-- `hash::sysv_hash` meets its contract: so far as the fold has come, it is the hash of the bytes.
-- Assumes nothing.
use Rattle.std.proofs.Common.{rules, ◌≡◌, ◌%◌, refl, subst}
use Rattle.std.proofs.lemmas.Fn.{fold_over, slice_gives, fronts}
use Rattle.hash.specs.Sysv.{sysv_step, sysv_from, sysv_hash}
use Rattle.hash.proofs.Laws.{hash_more, hash_known}
use Rattle.hash.proofs.sysv_hash.Goals as goal

pub returns : goal.returns
unfolding sysv_from
returns c =
    subst (λ l. c.fold.result % 268435456 ≡ sysv_hash l) c.iter.ensures.rest
    (hash_known _ _ (fold_over fronts (λ y. y.now) _ (λ ys h. h ≡ sysv_from 0 ys) _
    (λ ys a x b f' h k. let e : b ≡ sysv_step a x.now = search rules in (cc (hash_more 0 ys x.now), search rules))
    _ _ _ _ (slice_gives c.iter.result) refl c.fold.ensures.ran))
