-- The laws of carrying out: what it says that nothing is refused, and the parts of one record as the code leaves them.
-- Assumes nothing.
use Prim.Native.Nat.{ℕ, ◌+◌, ◌-◌, ◌*◌, ◌/◌, ◌≤◌, ◌<◌}
use native.Mathlib.Numerals.{add-one}
use native.Mathlib.Omega.{arith}
use mathlib.Core.Path.{◌≡◌, sym, ap, ap₂, ◌∙◌}
use mathlib.Core.Bool.{false, not}
use mathlib.Core.List.{List}
use lib.ListN.{length, take, drop, replicate, length-replicate, length-drop}
use lib.Seq.{length-take-le}
use lib.Dec.{ltb, eqb}
use borrow.Author.Tests.{le-leb, ltb-false, le-ltb, eqb-true, eq-eqb, not-false}
use borrow.Rule.Slice.PartMut.{put_mid}
use Rattle.memory.specs.Run.{put}
use Rattle.memory.proofs.Put.{mid_put, length_put, put_gaps}
use Rattle.records.specs.Record.{record_at}
use Rattle.records.specs.declared.Record.{Record}
use Rattle.load_rules.specs.Rules.{any_below}
use Rattle.load_rules.specs.declared.Window.{Window}
use Rattle.std.proofs.lemmas.Bool.Decides.{nat_tests}
use Rattle.load_rules.proofs.Tests.{none_at, none_of}
use Rattle.std.specs.Prelude.{Ok}
use Rattle.load_plan.specs.declared.refusal.Refusal.TheVariants.{ShortTable, Unfit, Outside}
use Rattle.load_plan.proofs.Accept.{pass}
use Rattle.load_image.specs.Carry.{astray, beyond, passes, verdict_of, carried, carried_below, Fitted}
use Rattle.load_image.specs.Pieces.{Neat}

-- ---- a table that is not refused

pub record Sound (w : Window) (flen : ℕ) (t : List ℕ) (n mlen : ℕ) : Type 0 where
  pub holds : 48 * n ≤ length t
  pub memory_is : mlen ≡ w.len
  pub fitted : (k : ℕ) → k < n → Fitted w.start w.len flen (record_at t k)

fitted_of : (w : Window) (flen : ℕ) (r : Record) → astray w r ≡ false → beyond flen r ≡ false → Fitted w.start w.len flen r
fitted_of w flen r h g = record {
  page_low = grind (arith, nat_tests);
  page_high = grind (arith, nat_tests);
  at_low = grind (arith, nat_tests);
  at_high = grind (arith, nat_tests);
  in_file = grind (arith, nat_tests);
}

fitted_to : (w : Window) (flen : ℕ) (r : Record) → Fitted w.start w.len flen r → (astray w r ≡ false) × (beyond flen r ≡ false)
fitted_to w flen r p =
    (rw (le-leb _ _ p.page_low, le-leb _ _ p.page_high, le-leb _ _ p.at_low, le-leb _ _ p.at_high), rw (le-leb _ _ p.in_file))

pub sound : (w : Window) (flen : ℕ) (t : List ℕ) (n mlen : ℕ) → verdict_of w flen t n mlen ≡ Ok tt → Sound w flen t n mlen
unfolding verdict_of passes
sound w flen t n mlen e =
    let p1 = pass (ltb (length t / 48) n) ShortTable _ e in
    let p2 = pass (not (eqb mlen w.len)) Outside _ p1.1 in
    let p3 = pass (any_below (passes (astray w) t) n) Outside _ p2.1 in
    let p4 = pass (any_below (passes (beyond flen) t) n) Unfit _ p3.1 in
    record {
      holds = omega (arith, ltb-false (length t / 48) n p1.0);
      memory_is = eqb-true mlen w.len (not-false (eqb mlen w.len) p2.0);
      fitted = λ k lt. fitted_of w flen (record_at t k) (none_at (passes (astray w) t) n k p3.0 lt) (none_at (passes (beyond flen) t) n k p4.0 lt);
    }

pub carries : (w : Window) (flen : ℕ) (t : List ℕ) (n mlen : ℕ) → Sound w flen t n mlen → verdict_of w flen t n mlen ≡ Ok tt
unfolding verdict_of passes
carries w flen t n mlen s =
    let a : any_below (passes (astray w) t) n ≡ false = none_of (passes (astray w) t) n (λ k lt. (fitted_to w flen (record_at t k) (s.fitted k lt)).0) in
    let b : any_below (passes (beyond flen) t) n ≡ false = none_of (passes (beyond flen) t) n (λ k lt. (fitted_to w flen (record_at t k) (s.fitted k lt)).1) in
    rw (le-ltb (length t / 48) n (omega (arith, s.holds)), eq-eqb mlen w.len s.memory_is, a, b)

-- ---- one record

pub length_part : (x n : ℕ) (f : List ℕ) → x + n ≤ length f → length (take n (drop x f)) ≡ n
length_part x n f h = length-take-le n (drop x f) (rw length-drop (omega arith))

-- a part as the code leaves it: zeroed, or copied from n bytes of the file
zeroed : (a k : ℕ) (m z : List ℕ) → a + k ≤ length m → z ≡ replicate (length (take k (drop a m))) 0 → put_mid a k m z ≡ put a (replicate k 0) m
zeroed a k m z h e =
    let all : z ≡ replicate k 0 = e ∙ ap (λ (n : ℕ). replicate n 0) (length_part a k m h) in
    mid_put a k m z (ap length all ∙ length-replicate k 0) ∙ ap (λ (x : List ℕ). put a x m) all

copied : (a k i n x : ℕ) (f m v : List ℕ) → k ≡ n → i ≡ n → x + n ≤ length f → v ≡ take i (drop x f) → put_mid a k m v ≡ put a (take n (drop x f)) m
copied a k i n x f m v hk hi h e =
    let all : v ≡ take n (drop x f) = e ∙ ap (λ (j : ℕ). take j (drop x f)) hi in
    mid_put a k m v (ap length all ∙ length_part x n f h ∙ sym hk) ∙ ap (λ (y : List ℕ). put a y m) all

module _ (start : ℕ) (f : List ℕ) (r : Record) (m : List ℕ) where
  -- as `carry_plain` leaves its two parts
  pub carried_parts : Fitted start (length m) (length f) r → (k l i : ℕ) (z v : List ℕ) → k ≡ r.len → l ≡ r.count → i ≡ r.count
      → z ≡ replicate (length (take k (drop (r.page - start) m))) 0 → v ≡ take i (drop r.from f)
      → put_mid (r.at - start) l (put_mid (r.page - start) k m z) v ≡ carried start f r m
  unfolding carried
  carried_parts p k l i z v hk hl hi hz hv =
      copied (r.at - start) l i r.count r.from f (put_mid (r.page - start) k m z) v hl hi p.in_file hv
      ∙ ap (λ (x : List ℕ). put (r.at - start) (take r.count (drop r.from f)) x) (zeroed (r.page - start) k m z (omega (arith, p.page_high)) hz ∙ ap (λ (n : ℕ). put (r.page - start) (replicate n 0) m) hk)

  -- as `carry_within` leaves its three: k zeros in front of the bytes, j behind them
  pub carried_gaps : Neat start (length m) (length f) r → (k l i j : ℕ) (z v y : List ℕ) → r.page - start + k ≡ r.at - start → l ≡ r.count → i ≡ r.count
      → r.at - start + r.count + j ≡ r.page - start + r.len
      → z ≡ replicate (length (take k (drop (r.page - start) m))) 0 → v ≡ take i (drop r.from f)
      → y ≡ replicate (length (take j (drop (r.at - start + r.count) (put_mid (r.at - start) l (put_mid (r.page - start) k m z) v)))) 0
      → put_mid (r.at - start + r.count) j (put_mid (r.at - start) l (put_mid (r.page - start) k m z) v) y ≡ carried start f r m
  unfolding carried
  carried_gaps p k l i j z v y hk hl hi hj hz hv hy =
      let a = r.page - start in
      let c = r.at - start in
      let xs = take r.count (drop r.from f) in
      let long : length xs ≡ r.count = length_part r.from r.count f p.fits.in_file in
      let zs : List ℕ = replicate k 0 in
      let many : length zs ≡ k = length-replicate k 0 in
      let two : put_mid c l (put_mid a k m z) v ≡ put c xs (put a zs m)
      = copied c l i r.count r.from f (put_mid a k m z) v hl hi p.fits.in_file hv ∙ ap (λ (x : List ℕ). put c xs x) (zeroed a k m z (omega (arith, p.fits.at_high)) hz) in
      let first : length (put a zs m) ≡ length m = length_put a zs m (omega (arith, p.fits.at_high)) in
      let same : length (put c xs (put a zs m)) ≡ length m = length_put c xs (put a zs m) (omega (arith, p.fits.at_high)) ∙ first in
      zeroed (c + r.count) j (put_mid c l (put_mid a k m z) v) y (rw two (omega (arith, p.fits.page_high))) hy
      ∙ ap (λ (x : List ℕ). put (c + r.count) (replicate j 0) x) two
      ∙ sym (put_gaps a r.len c (c + r.count) k j xs m hk (omega arith) hj p.fits.page_high)

-- a turn of the loop
pub carry_turn : (start : ℕ) (f t : List ℕ) (k : ℕ) (m₀ m m' : List ℕ) (r : Record) → r ≡ record_at t k → m ≡ carried_below start f t k m₀ → m' ≡ carried start f r m
    → m' ≡ carried_below start f t (k + 1) m₀
unfolding carried_below
carry_turn start f t k m₀ m m' r er em e = rw add-one (e ∙ ap₂ (λ (x : Record) (y : List ℕ). carried start f x y) er em)
