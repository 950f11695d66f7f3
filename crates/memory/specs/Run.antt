-- A run of bytes in memory.
-- put at xs m    m with xs in place of as many of its bytes, from the index at on
-- Assumes nothing.
use Rattle.std.specs.Prelude.{ℕ, ◌+◌, List, ◌++◌, length, take, drop}

abbrev pub put : ℕ → List ℕ → List ℕ → List ℕ
put at xs m = take at m ++ (xs ++ drop (at + length xs) m)
