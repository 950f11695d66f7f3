-- Marks on numbers, eight to a byte, the lowest bit first.
-- marked m i     whether i is marked
-- marking m i    the marks with i marked too
-- Assumes nothing.
use Rattle.std.specs.Prelude.{ℕ, ◌/◌, ◌%◌, ◌^◌, Bool, List, get_or, set, eqb}
use Rattle.std.specs.Int.Bits.{bit_or}

unfoldable pub marked : List ℕ → ℕ → Bool
marked m i = eqb (get_or m (i / 8) 0 / 2 ^ (i % 8) % 2) 1

unfoldable pub marking : List ℕ → ℕ → List ℕ
marking m i = set m (i / 8) (bit_or (get_or m (i / 8) 0) (2 ^ (i % 8)))
