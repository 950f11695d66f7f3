-- Test 25 in one pass: a segment starts before the end of the pages so far exactly where one clashes with one before it.
-- Assumes nothing.
use Prim.Native.Nat.{ℕ, zero, suc, ◌≤◌, ◌<◌}
use native.Mathlib.Nat.{eq-or-lt_of_le, le_of_suc-le-suc, not-suc-le-zero, le_trans}
use native.Mathlib.Omega.{arith}
use mathlib.Core.Path.{◌≡◌, refl, sym, ap, ◌∙◌}
use mathlib.Core.Bool.{Bool, true, false, ◌&&◌, ◌||◌, cond, true≢false}
use mathlib.Core.List.{List}
use mathlib.Core.Logic.{◌⊎◌, inl, inr, ⊎_elim}
use lib.Dec.{leb, ltb}
use borrow.Author.Tests.{ltb-false}
use Rattle.segment.specs.declared.ProgramHeader.{ProgramHeader}
use Rattle.load_rules.specs.Rules.{any_below, real, first, last, low, outside, good_window}
use Rattle.load_rules.specs.declared.Window.{Window}
use Rattle.std.proofs.lemmas.Bool.Decides.{nat_tests}
use Rattle.load_rules.proofs.Tests.{none_at, none_of, some_at, found}
use Rattle.load_rules.proofs.Pages.{real_pos}
use Rattle.load_plan.specs.declared.Job.{Job}
use Rattle.load_plan.specs.Plan.{seg_at, some, clash, clash_with, clash_at}
use Rattle.load_plan.specs.Facts.{end_below, crossed}
use Rattle.load_plan.proofs.Order.{placed_at}

-- a loaded segment lies between the first and the last of its pages
inner : (s : ProgramHeader) → real s ≡ true → (first s ≤ s.vaddr) × (s.vaddr < last s)
inner s r = let p = real_pos s r in (omega arith, omega arith)

-- two segments that do not clash lie apart, and the other way round
pub clash_apart : (s t : ProgramHeader) → real s ≡ true → real t ≡ true → clash s t ≡ false → last s ≤ first t
clash_apart s t rs rt e =
    let a = inner s rs in
    let b = inner t rt in
    grind (arith, nat_tests)

pub apart_clash : (s t : ProgramHeader) → (real s ≡ true → real t ≡ true → last s ≤ first t) → clash s t ≡ false
apart_clash s t h = go (real s) refl (real t) refl
  where
    go : (x : Bool) → real s ≡ x → (y : Bool) → real t ≡ y → ((x && y) && (leb t.vaddr s.vaddr || (ltb (first s) (last t) && ltb (first t) (last s)))) ≡ false
    go false ex y ey = refl
    go true ex false ey = refl
    go true ex true ey =
        let q = h ex ey in
        let a = inner s ex in
        let b = inner t ey in
        grind (arith, nat_tests)

clash_yes : (s t : ProgramHeader) → real s ≡ true → real t ≡ true → first t < last s → clash s t ≡ true
clash_yes s t rs rt h =
    let a = inner s rs in
    let b = inner t rt in
    grind (arith, nat_tests)

-- the end of the pages so far is that of a segment before, or where the window starts
record Before (seg : ℕ → ProgramHeader) (k e : ℕ) : Type 0 where
  which : ℕ
  earlier : which < k
  is_real : real (seg which) ≡ true
  ends : e ≡ last (seg which)

end_of : (seg : ℕ → ProgramHeader) (l k : ℕ) → (end_below seg l k ≡ l) ⊎ Before seg k (end_below seg l k)
unfolding end_below
end_of seg l zero = inl refl
end_of seg l (suc k) = go (end_of seg l k) (real (seg k)) refl
  where
    go : (end_below seg l k ≡ l) ⊎ Before seg k (end_below seg l k) → (b : Bool) → real (seg k) ≡ b
        → (cond b (last (seg k)) (end_below seg l k) ≡ l) ⊎ Before seg (suc k) (cond b (last (seg k)) (end_below seg l k))
    go ih true e = inr (record { which = k; earlier = omega arith; is_real = e; ends = refl })
    go ih false e = ⊎_elim
        (λ q. inl q)
        (λ q. inr (record { which = q.which; earlier = omega (arith, q.earlier); is_real = q.is_real; ends = q.ends }))
        ih

module _ (seg : ℕ → ProgramHeader) (l n : ℕ) (inside : (k : ℕ) → k < n → real (seg k) ≡ true → l ≤ first (seg k)) where
  -- a segment that starts too early clashes with one before it
  crossed_found : (k : ℕ) → k < n → crossed seg l k ≡ true → clash_at seg k ≡ true
  unfolding crossed clash_at clash_with
  crossed_found k lt c =
      let s = seg k in
      let r : real s ≡ true = grind (arith, nat_tests) in
      let b : first s < end_below seg l k = grind (arith, nat_tests) in
      ⊎_elim
      (λ e. absurd (omega (arith, e, b, inside k lt r)))
      (λ e. some_at (clash_with seg k) k e.which (clash_yes (seg e.which) s e.is_real r (omega (arith, e.ends, b))) e.earlier)
      (end_of seg l k)

  module _ (none : any_below (crossed seg l) n ≡ false) where
    end_first : (k : ℕ) → k < n → real (seg k) ≡ true → end_below seg l k ≤ first (seg k)
    unfolding crossed
    end_first k lt r =
        let c : crossed seg l k ≡ false = none_at (crossed seg l) n k none lt in
        ltb-false (first (seg k)) (end_below seg l k) (rw r at c)

    below_end : (k : ℕ) → k ≤ n → (i : ℕ) → i < k → real (seg i) ≡ true → last (seg i) ≤ end_below seg l k
    unfolding end_below
    below_end zero hk i lt r = absurd (not-suc-le-zero lt)
    below_end (suc k) hk i lt r = go (below_end k (omega arith) i) (real (seg k)) refl (eq-or-lt_of_le (le_of_suc-le-suc lt))
      where
        go : (i < k → real (seg i) ≡ true → last (seg i) ≤ end_below seg l k) → (b : Bool) → real (seg k) ≡ b → (i ≡ k) ⊎ (i < k)
            → last (seg i) ≤ cond b (last (seg k)) (end_below seg l k)
        go ih true e = ⊎_elim
            (λ q. rw q (omega arith))
            (λ lt'. omega (arith, ih lt' r, end_first k hk e, inner (seg k) e))
        go ih false e = ⊎_elim
            (λ q. absurd (true≢false (sym r ∙ ap (λ (x : ℕ). real (seg x)) q ∙ e)))
            (λ lt'. ih lt' r)

    no_clash : (k : ℕ) → k < n → clash_at seg k ≡ false
    unfolding clash_at clash_with
    no_clash k lt = none_of (clash_with seg k) k (λ i h. apart_clash (seg i) (seg k) (λ ri rk. le_trans (below_end k (omega arith) i h ri) (end_first k lt rk)))

  pub crossed_clash : any_below (crossed seg l) n ≡ any_below (clash_at seg) n
  crossed_clash = go (any_below (crossed seg l) n) refl
    where
      go : (b : Bool) → any_below (crossed seg l) n ≡ b → any_below (crossed seg l) n ≡ any_below (clash_at seg) n
      go true e = let q = found (crossed seg l) n e in e ∙ sym (some_at (clash_at seg) n q.0 (crossed_found q.0 q.1 q.2) q.1)
      go false e = e ∙ sym (none_of (clash_at seg) n (no_clash e))

-- so it is for a file of which no segment is outside the window
pub order_is : (f : List ℕ) (j : Job) (w : Window) (l : ℕ) → l ≡ low j.kind w → good_window w ≡ true → some f j (outside l w.len) ≡ false
    → any_below (crossed (seg_at f j) l) j.count ≡ any_below (clash_at (seg_at f j)) j.count
order_is f j w l el g none =
    crossed_clash (seg_at f j) l j.count
    (λ k lt r. let p = placed_at f j w l k (seg_at f j k) el refl r g none lt in let q = p.page in let h = p.low in omega arith)
