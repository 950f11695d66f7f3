-- The bytes of a name that stand at an offset of a table: byte by byte, and eight at a time.
-- Bytes s                every number of s is a byte
-- Matched t o name k     from byte k on, the bytes of the name stand there
-- Assumes nothing.
use Prim.Native.Nat.{ℕ, zero, suc, ◌+◌, ◌-◌, ◌<◌, ◌≤◌}
use native.Mathlib.Nat.{add-zero, add_assoc, eq-or-lt_of_le}
use native.Mathlib.Omega.{arith}
use mathlib.Core.Path.{◌≡◌, refl, sym}
use mathlib.Core.Logic.{⊎_elim}
use mathlib.Core.Bool.{Bool, true, false}
use mathlib.Core.List.{List}
use lib.ListN.{length, get_or, take, drop, length-take, length-drop}
use lib.Seq.{get_or-take, get_or-drop, ext_get_or}
use lib.Dec.{eqb, leb}
use borrow.Author.Tests.{eqb-true, eqb-false, leb-true, leb-false}
use Rattle.endian.specs.Number.{number_at}
use Rattle.endian.specs.declared.Order.TheVariants.{Little}
use Rattle.string_table.specs.Text.{same_run}
use Rattle.string_table.proofs.Laws.{same_equal, same_other, run_byte}

abbrev pub Bytes : List ℕ → Type 0
Bytes s = (i : ℕ) → get_or s i 0 < 256

-- two numbers of w bytes are equal exactly when their bytes are
number_bytes : (w : ℕ) (s t : List ℕ) (o p : ℕ) → Bytes s → Bytes t → number_at Little w s o ≡ number_at Little w t p
    → (i : ℕ) → i < w → get_or s (o + i) 0 ≡ get_or t (p + i) 0
unfolding number_at
number_bytes zero s t o p a b e i h = absurd (omega arith)
number_bytes (suc w) s t o p a b e zero h = let x = a o in let y = b p in rw (add-zero o, add-zero p) (omega arith)
number_bytes (suc w) s t o p a b e (suc i) h =
    let x = a o in
    let y = b p in
    let r : number_at Little w s (o + 1) ≡ number_at Little w t (p + 1) = omega arith in
    let m : o + suc i ≡ o + 1 + i = omega arith in
    let n : p + suc i ≡ p + 1 + i = omega arith in
    rw (m, n) (number_bytes w s t (o + 1) (p + 1) a b r i (omega arith))

bytes_number : (w : ℕ) (s t : List ℕ) (o p : ℕ) → ((i : ℕ) → i < w → get_or s (o + i) 0 ≡ get_or t (p + i) 0)
    → number_at Little w s o ≡ number_at Little w t p
unfolding number_at
bytes_number zero s t o p f = refl
bytes_number (suc w) s t o p f =
    let x : get_or s o 0 ≡ get_or t p 0 = rw (add-zero o, add-zero p) at (f 0 (omega arith)) in
    let r = bytes_number w s t (o + 1) (p + 1) (λ i h. rw (add_assoc o 1 i, add_assoc p 1 i) (f (1 + i) (omega arith))) in
    rw (x, r)

module _ (t : List ℕ) (o : ℕ) (name : List ℕ) where
  abbrev pub Matched : ℕ → Type 0
  Matched k = (j : ℕ) → k ≤ j → j < length name → get_or t (o + j) 0 ≡ get_or name j 0

  pub run_matched : o + length name ≤ length t → Matched 0 → same_run t o name ≡ true
  unfolding same_run
  run_matched h m =
      let len : length (take (length name) (drop o t)) ≡ length name = simp (length-take, length-drop) (omega arith) in
      same_equal _ _ (ext_get_or 0 _ _ len (λ i g. let k : i < length name = omega arith in rw (get_or-take, get_or-drop) (m i (omega arith) k)))

  pub run_other : (Matched 0 → ⊥) → same_run t o name ≡ false
  unfolding same_run
  run_other n =
      same_other _ _ (λ (e : take (length name) (drop o t) ≡ name). n (λ j p q. run_byte t o name e j q))

  -- a byte that agrees adds one to those that match
  pub byte_matched : (k : ℕ) → get_or t (o + (k - 1)) 0 ≡ get_or name (k - 1) 0 → Matched k → Matched (k - 1)
  byte_matched k e m j p q = ⊎_elim (λ g. rw (← g) e) (λ g. m j (omega arith) q) (eq-or-lt_of_le p)

  word_at : (k : ℕ) → k + 8 ≤ length name → Matched k → number_at Little 8 t (o + k) ≡ number_at Little 8 name k
  word_at k h m = bytes_number 8 t name (o + k) k (λ i g. rw (add_assoc o k i) (m (k + i) (omega arith) (omega arith)))

  -- a word that differs decides, and one that agrees adds eight bytes to those that match
  pub word_other : (k : ℕ) → k + 8 ≤ length name → (number_at Little 8 t (o + k) ≡ number_at Little 8 name k → ⊥) → same_run t o name ≡ false
  word_other k h n = run_other (λ m. n (word_at k h (λ j p q. m j (omega arith) q)))

  module _ (a : Bytes t) (b : Bytes name) where
    pub word_matched : (k e : ℕ) → e ≤ k + 8 → number_at Little 8 t (o + k) ≡ number_at Little 8 name k → Matched e → Matched k
    word_matched k e h w m j p q = pick (leb e j) refl
      where
        pick : (x : Bool) → leb e j ≡ x → get_or t (o + j) 0 ≡ get_or name j 0
        pick true r = m j (leb-true e j r) q
        pick false r =
            let l = leb-false e j r in
            let i : k + (j - k) ≡ j = omega arith in
            rw (add_assoc o k (j - k), i) at (number_bytes 8 t name (o + k) k a b w (j - k) (omega arith))

    -- the first word decides where at most eight bytes are left
    pub first_word : (k : ℕ) → k ≤ 8 → 8 ≤ length name → o + length name ≤ length t → Matched k
        → eqb (number_at Little 8 t o) (number_at Little 8 name 0) ≡ same_run t o name
    first_word k h l r m = pick (eqb (number_at Little 8 t o) (number_at Little 8 name 0)) refl
      where
        pick : (x : Bool) → eqb (number_at Little 8 t o) (number_at Little 8 name 0) ≡ x → x ≡ same_run t o name
        pick true q = sym (run_matched r (word_matched 0 k h (rw (add-zero o) (eqb-true _ _ q)) m))
        pick false q = sym (word_other 0 l (λ e. eqb-false _ _ q (rw (add-zero o) at e)))
