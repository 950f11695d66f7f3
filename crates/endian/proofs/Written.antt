-- The laws of what is written: how many bytes a number has, and that a number that is written reads back.
-- Assumes nothing.
use Prim.Native.Nat.{ℕ, zero, suc, ◌+◌, ◌^◌, ◌<◌, ◌≤◌}
use native.Mathlib.Nat.{add-zero, pow-suc, mod-lt, mod-add-div, div-add-mod, div-lt_iff_lt-mul}
use native.Mathlib.Numerals.{add-one}
use native.Mathlib.Omega.{arith}
use mathlib.Core.Path.{◌≡◌, refl, ap, ◌∙◌}
use mathlib.Core.List.{List, [], ◌∷◌, ◌++◌}
use lib.ListN.{length, get_or, set, length-set}
use lib.Seq.{sets, get_or-set_same, get_or-set_other}
use Rattle.endian.specs.Number.{number_at, bytes_of, joined, front, back}
use Rattle.endian.specs.declared.Order.{Order}
use Rattle.endian.specs.declared.Order.TheVariants.{Little, Big}

pub sets_append : (s : List ℕ) (o : ℕ) (xs ys : List ℕ) → sets s o (xs ++ ys) ≡ sets (sets s o xs) (o + length xs) ys
sets_append s o [] ys = rw add-zero
sets_append s o (x ∷ xs) ys = let e : o + suc (length xs) ≡ suc o + length xs = omega arith in rw e (sets_append (set s o x) (suc o) xs ys)

pub length_bytes : (e : Order) (w n : ℕ) → length (bytes_of e w n) ≡ w
unfolding bytes_of
length_bytes e zero n = refl
length_bytes e (suc w) n = ap suc (length_bytes e w (back e 1 w n))

-- the two parts of a number are the number
pub joined_parts : (e : Order) (a b n : ℕ) → joined e a b (front e a b n) (back e a b n) ≡ n
joined_parts Little a b n = mod-add-div n (256 ^ a)
joined_parts Big a b n = div-add-mod n (256 ^ b)

pub power_pos : (a : ℕ) → zero < 256 ^ a
power_pos zero = omega arith
power_pos (suc a) = let h = power_pos a in rw (pow-suc 256 a) (omega arith)

back_lt : (e : Order) (w n : ℕ) → n < 256 ^ suc w → back e 1 w n < 256 ^ w
back_lt Little w n h = (div-lt_iff_lt-mul {k = 256} {x = n} {y = 256 ^ w} (omega arith)).1 (rw (← pow-suc 256 w) h)
back_lt Big w n h = mod-lt n (power_pos w)

-- what stands in front of a run of stores is as it was
pub get_d_sets_before : (vs s : List ℕ) (i k : ℕ) → k < i → get_or (sets s i vs) k 0 ≡ get_or s k 0
get_d_sets_before [] s i k h = refl
get_d_sets_before (v ∷ vs) s i k h =
    get_d_sets_before vs (set s i v) (suc i) k (omega arith) ∙ get_or-set_other s i k v 0 (λ e. omega arith)

-- two lists that agree on a number's bytes have the same number there
pub number_same : (e : Order) (w : ℕ) (s t : List ℕ) (o : ℕ) → ((k : ℕ) → o ≤ k → k < o + w → get_or s k 0 ≡ get_or t k 0) → number_at e w s o ≡ number_at e w t o
unfolding number_at
number_same e zero s t o h = refl
number_same e (suc w) s t o h =
    rw (h o (omega arith) (omega arith), number_same e w s t (o + 1) (λ k p q. h k (omega arith) (omega arith)))

-- a number that is written reads back
pub read_back : (e : Order) (w n : ℕ) (s : List ℕ) (o : ℕ) → n < 256 ^ w → o + w ≤ length s → number_at e w (sets s o (bytes_of e w n)) o ≡ n
unfolding number_at bytes_of
read_back e zero n s o h l = omega arith
read_back e (suc w) n s o h l =
    let f = front e 1 w n in
    let r = bytes_of e w (back e 1 w n) in
    let here : get_or (sets (set s o f) (suc o) r) o 0 ≡ f =
    get_d_sets_before r (set s o f) (suc o) o (omega arith) ∙ get_or-set_same s o f 0 (omega arith) in
    let rest : number_at e w (sets (set s o f) (suc o) r) (o + 1) ≡ back e 1 w n =
    rw add-one (read_back e w (back e 1 w n) (set s o f) (suc o) (back_lt e w n h) (rw length-set (omega arith))) in
    rw (here, rest) (joined_parts e 1 w n)
