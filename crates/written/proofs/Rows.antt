-- A table of numbers that is written row by row reads back row by row: one law for every table whose rows follow one another.
-- And the laws of the test before it: what was not refused has room, and every number fits.
-- Assumes nothing.
use Prim.Native.Nat.{ℕ, zero, suc, ◌+◌, ◌^◌, ◌<◌, ◌≤◌}
use native.Mathlib.Omega.{arith}
use mathlib.Core.Path.{◌≡◌, refl, sym, ◌∙◌}
use mathlib.Core.List.{List, [], ◌∷◌}
use mathlib.Core.Bool.{Bool, true, false, ◌&&◌}
use lib.Dec.{ltb}
use borrow.Author.Tests.{lt-ltb, ltb-true}
use Rattle.std.specs.Prelude.{Ok}
use lib.ListN.{length, get_or, set, length-set}
use lib.Seq.{sets, length-sets, get_or-set_same}
use Rattle.std.proofs.lemmas.Bool.Decides.{nat_tests}
use Rattle.endian.specs.Number.{number_at, bytes_of}
use Rattle.endian.specs.declared.Order.{Order}
use Rattle.endian.proofs.Written.{read_back, number_same, get_d_sets_before}
use Rattle.written.specs.Rows.{Row, write_all, Fitting, fits, room_fault, fit_fault, write_fault}

-- each row starts at or behind the end of the one before, from p on, and the last ends by n
abbrev pub Ordered : ℕ → List Row → ℕ → Type 0
Ordered p [] n = p ≤ n
Ordered p (r ∷ rs) n = (p ≤ r.at) × Ordered (r.at + r.wide) rs n

abbrev pub AllRead : Order → List Row → List ℕ → Type 0
AllRead e [] t = Unit {0}
AllRead e (r ∷ rs) t = (r.value ≡ number_at e r.wide t r.at) × AllRead e rs t

ends : (rs : List Row) (p n : ℕ) → Ordered p rs n → p ≤ n
ends [] p n h = h
ends (r ∷ rs) p n h = let k = ends rs (r.at + r.wide) n h.1 in let j = h.0 in omega arith

pub length_all : (e : Order) (rs : List Row) (s : List ℕ) → length (write_all e rs s) ≡ length s
length_all e [] s = refl
length_all e (r ∷ rs) s = length_all e rs (sets s r.at (bytes_of e r.wide r.value)) ∙ length-sets s r.at (bytes_of e r.wide r.value)

-- what stands in front of the rows stays
pub byte_kept : (e : Order) (rs : List Row) (p n k : ℕ) (s : List ℕ) → Ordered p rs n → k < p → get_or (write_all e rs s) k 0 ≡ get_or s k 0
byte_kept e [] p n k s h l = refl
byte_kept e (r ∷ rs) p n k s h l =
    let j = h.0 in
    let vs = bytes_of e r.wide r.value in
    byte_kept e rs (r.at + r.wide) n k (sets s r.at vs) h.1 (omega arith) ∙ get_d_sets_before vs s r.at k (omega arith)

pub all_read : (e : Order) (rs : List Row) (p n : ℕ) (s : List ℕ) → Ordered p rs n → n ≤ length s → Fitting rs → AllRead e rs (write_all e rs s)
all_read e [] p n s h l f = tt
all_read e (r ∷ rs) p n s h l f =
    let vs = bytes_of e r.wide r.value in
    let t = sets s r.at vs in
    let k = ends rs (r.at + r.wide) n h.1 in (
      sym (number_same e r.wide (write_all e rs t) t r.at (λ i a b. byte_kept e rs (r.at + r.wide) n i t h.1 b)
          ∙ read_back e r.wide r.value s r.at f.0 (omega arith)),
      all_read e rs (r.at + r.wide) n t h.1 (rw length-sets l) f.1,
    )

-- within a run of stores stands what was stored
pub get_d_sets_in : (vs s : List ℕ) (i k : ℕ) → i + length vs ≤ length s → k < length vs → get_or (sets s i vs) (i + k) 0 ≡ get_or vs k 0
get_d_sets_in [] s i k l h = absurd (omega arith)
get_d_sets_in (v ∷ vs) s i zero l h =
    let e : i + 0 ≡ i = omega arith in
    rw e (get_d_sets_before vs (set s i v) (suc i) i (omega arith) ∙ get_or-set_same s i v 0 (omega arith))
get_d_sets_in (v ∷ vs) s i (suc k) l h =
    let e : i + suc k ≡ suc i + k = omega arith in
    rw e (get_d_sets_in vs (set s i v) (suc i) k (rw length-set (omega arith)) (omega arith))

-- the test of a table whose numbers fit, and what a test that passes says
pub fits_all : (rs : List Row) → Fitting rs → fits rs ≡ true
fits_all [] f = refl
fits_all (r ∷ rs) f = rw (lt-ltb r.value (256 ^ r.wide) f.0) (fits_all rs f.1)

both : (a b : Bool) → (a && b) ≡ true → (a ≡ true) × (b ≡ true)
both true b e = (refl, e)
both false b e = let z : false ≡ true = e in (z, cc)

every : (rs : List Row) → fits rs ≡ true → Fitting rs
every [] e = tt
every (r ∷ rs) e = let p = both (ltb r.value (256 ^ r.wide)) (fits rs) e in (ltb-true _ _ p.0, every rs p.1)

pub fitting : (rs : List Row) → fit_fault (fits rs) ≡ Ok tt → Fitting rs
unfolding fit_fault
fitting rs q = every rs (grind (arith, nat_tests))

-- and that there is room
pub room_left : (size n : ℕ) → room_fault size n ≡ Ok tt → size ≤ n
unfolding room_fault
room_left size n q = grind (arith, nat_tests)

-- where the two tests of a table pass, both do
pub unrefused : (size : ℕ) (rs : List Row) (n : ℕ) → write_fault size rs n ≡ Ok tt → (size ≤ n) × Fitting rs
unfolding room_fault fit_fault
unrefused size rs n q = (grind (arith, nat_tests), every rs (grind (arith, nat_tests)))
