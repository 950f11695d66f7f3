-- Searches: the first of some numbers at which a test passes, and the first entry of a kind.
-- first_from p n i           the first of the n numbers from i on at which p holds
-- is_kind e s size at k i    the four bytes at the place `at` of entry i say k
-- first_kind e s size at k   the first whole entry of the table s that says so
-- Assumes nothing.
use Rattle.std.specs.Prelude.{ℕ, zero, suc, ◌+◌, ◌*◌, ◌/◌, Bool, cond, List, length, eqb, Option, Some, None}
use Rattle.endian.specs.Number.{number_at}
use Rattle.endian.specs.declared.Order.{Order}

unfoldable pub first_from : (ℕ → Bool) → ℕ → ℕ → Option ℕ
first_from p zero i = None
first_from p (suc n) i = cond (p i) (Some i) (first_from p n (i + 1))

abbrev pub is_kind : Order → List ℕ → ℕ → ℕ → ℕ → ℕ → Bool
is_kind e s size at k i = eqb (number_at e 4 s (i * size + at)) k

unfoldable pub first_kind : Order → List ℕ → ℕ → ℕ → ℕ → Option ℕ
first_kind e s size at k = first_from (is_kind e s size at k) (length s / size) 0
