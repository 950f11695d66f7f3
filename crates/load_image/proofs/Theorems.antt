-- The theorems of a plan that is made, whatever memory it is carried out in:
-- Again, carrying it out twice is carrying it out once; AnyOrder, its records may be carried out in any order.
-- Assumes nothing.
use Prim.Native.Nat.{ℕ, ◌<◌}
use native.Mathlib.Omega.{arith}
use mathlib.Core.Path.{◌≡◌, refl, sym, ap, ◌∙◌, subst}
use mathlib.Core.Bool.{Bool, true, false}
use mathlib.Core.List.{List, ◌++◌}
use mathlib.Core.Logic.{◌⊎◌, inl, inr, ⊎_elim}
use lib.ListN.{length}
use lib.Dec.{ltb}
use borrow.Author.Tests.{ltb-true, ltb-false}
use Rattle.records.specs.Record.{record_at, table_bytes}
use Rattle.records.specs.declared.Record.{Record}
use Rattle.load_rules.specs.declared.Window.{Window}
use Rattle.load_plan.specs.Plan.{plan_in, Made}
use Rattle.std.specs.Prelude.{Ok}
use Rattle.load_image.specs.Carry.{carried_below}
use Rattle.load_image.specs.Pieces.{Neat, Pieces, Same, Shuffled}
use Rattle.load_image.proofs.Pieces.{again, any_order}
use Rattle.load_image.proofs.Table.{pieces}
use Rattle.load_image.proofs.Finish.{begins, rest, table_is}

-- ---- records in another order

module _ (start mlen flen : ℕ) (t t' : List ℕ) (n : ℕ) (p : Pieces start mlen flen t n) (s : Shuffled t t' n) where
  -- two places of the new table are two places of the old
  other : (i k : ℕ) → i < k → k < n → s.to i ≡ s.to k → ⊥
  other i k lt h e = let z : i ≡ k = sym (s.left i (omega arith)) ∙ ap s.from e ∙ s.left k h in omega arith

  order : (i k : ℕ) → (i ≡ k → ⊥) → (i < k) ⊎ (k < i)
  order i k h = go (ltb i k) refl (ltb k i) refl
    where
      go : (a : Bool) → ltb i k ≡ a → (b : Bool) → ltb k i ≡ b → (i < k) ⊎ (k < i)
      go true e b d = inl (ltb-true _ _ e)
      go false e true d = inr (ltb-true _ _ d)
      go false e false d = absurd (h (omega (arith, ltb-false i k e, ltb-false k i d)))

  swap : {A B : Type 0} → A ⊎ B → B ⊎ A
  swap = ⊎_elim (λ a. inr a) (λ b. inl b)

  pub shuffled_pieces : Pieces start mlen flen t' n
  shuffled_pieces = record {
    neat = λ k h. subst (λ (r : Record). Neat start mlen flen r) (sym (s.is k h)) (p.neat (s.to k) (s.to_below k h));
    apart = λ i k lt h.
        let hi : i < n = omega arith in
        rw (s.is i hi, s.is k h)
        (⊎_elim
        (λ q. p.apart (s.to i) (s.to k) q (s.to_below k h))
        (λ q. swap (p.apart (s.to k) (s.to i) q (s.to_below i hi)))
        (order (s.to i) (s.to k) (other i k lt h)));
  }

  same_records : Same t n t' n
  same_records = record {
    there = λ k h. (s.from k, s.from_below k h, ap (record_at t) (sym (s.right k h)) ∙ sym (s.is (s.from k) (s.from_below k h)));
    back = λ k h. (s.to k, s.to_below k h, s.is k h);
  }

pub shuffled : (start : ℕ) (f t t' : List ℕ) (n : ℕ) (m : List ℕ) → Pieces start (length m) (length f) t n → Shuffled t t' n → carried_below start f t n m ≡ carried_below start f t' n m
shuffled start f t t' n m p s =
    any_order start f t n t' n m p (shuffled_pieces start (length m) (length f) t t' n p s) (same_records start (length m) (length f) t t' n p s)

-- ---- a plan that is made

module _ (f : List ℕ) (w : Window) (table table' : List ℕ) (n : ℕ) (p : Made f w table table' (Ok n)) (m : List ℕ) (hm : length m ≡ w.len) where
  plan_pieces : Pieces w.start (length m) (length f) table' n
  plan_pieces =
      let b = begins f w table table' n p in
      let r = rest f w table table' n p in
      subst (λ (l : ℕ). Pieces w.start l (length f) table' n) (sym hm)
      (subst (λ (t : List ℕ). Pieces w.start w.len (length f) t n) (sym (table_is f w table table' n p))
      (subst (λ (k : ℕ). Pieces w.start w.len (length f) (table_bytes (plan_in f w b.job) ++ r) k) (sym b.count_is)
      (pieces f b.job w (length table) b.accepted_is r)))

  -- Again
  pub plan_again : carried_below w.start f table' n (carried_below w.start f table' n m) ≡ carried_below w.start f table' n m
  plan_again = again w.start f table' n m plan_pieces

  -- AnyOrder
  pub plan_any_order : (t : List ℕ) → Shuffled table' t n → carried_below w.start f table' n m ≡ carried_below w.start f t n m
  plan_any_order t s = shuffled w.start f table' t n m plan_pieces s
