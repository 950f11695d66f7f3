-- The laws of a walk, over the width and over any function that gives the rows: how long the rows are, one turn more, and
-- that a turn's entry lies in the table and its row in the array.
-- Assumes nothing.
use Prim.Native.Nat.{ℕ, zero, suc, ◌+◌, ◌*◌, ◌≤◌, ◌<◌}
use native.Mathlib.Numerals.{add-one}
use native.Mathlib.Nat.{suc-mul, zero-mul, div-le_self, le-div_iff_mul-le}
use native.Mathlib.Omega.{arith}
use mathlib.Core.Path.{◌≡◌, sym, ap, ap₂, ◌∙◌}
use mathlib.Core.List.{List, ◌++◌}
use lib.ListN.{length, drop, length-append}
use Rattle.parse.proofs.Laws.{inside}
use Rattle.memory.specs.Run.{put}
use Rattle.memory.proofs.Put.{put_next}
use Rattle.walks.specs.Walk.{rows_from, batch_of}

-- ---- any rows of w values

module _ (row : ℕ → List ℕ) (w : ℕ) (wide : (i : ℕ) → length (row i) ≡ w) where
  pub rows_length : (i n : ℕ) → length (rows_from row i n) ≡ n * w
  unfolding rows_from
  rows_length i zero = omega arith
  rows_length i (suc n) = length-append (rows_from row i n) (row (i + n)) ∙ ap₂ (λ (x y : ℕ). x + y) (rows_length i n) (wide (i + n)) ∙ sym (suc-mul n w)

  -- before the first turn
  pub no_turn : (i : ℕ) (old : List ℕ) → old ≡ rows_from row i 0 ++ drop (0 * w) old
  unfolding rows_from
  no_turn i old = rw zero-mul

  -- one turn more
  pub turn : (i n : ℕ) (old : List ℕ) → put (n * w) (row (i + n)) (rows_from row i n ++ drop (n * w) old) ≡ rows_from row i (n + 1) ++ drop ((n + 1) * w) old
  unfolding rows_from
  turn i n old =
      rw (add-one n, suc-mul n w)
      (put_next (n * w) (rows_from row i n) old (row (i + n)) (rows_length i n) ∙ ap (λ (y : ℕ). (rows_from row i n ++ row (i + n)) ++ drop (n * w + y) old) (wide (i + n)))

-- ---- a turn's entry and its row

pub batch_entry : (size len i width room k : ℕ) → 0 < size → k < batch_of size len i width room → (i + k) * size + size ≤ len
unfolding batch_of
batch_entry size len i width room k p h = inside size len (i + k) p (omega arith)

pub batch_row : (size len i width room k : ℕ) → 0 < width → k < batch_of size len i width room → k * width + width ≤ room
unfolding batch_of
batch_row size len i width room k p h = inside width room k p (omega arith)

pub batch_number : (size len i width room k : ℕ) → k < batch_of size len i width room → i + k < len
unfolding batch_of
batch_number size len i width room k h = omega (arith, div-le_self len size)

pub batch_rows : (size len i width room n : ℕ) → 0 < width → n ≤ batch_of size len i width room → n * width ≤ room
unfolding batch_of
batch_rows size len i width room n p h = (le-div_iff_mul-le {k = width} {x = n} {y = room} p).0 (omega arith)
