-- The bytes of a number as the library's methods give them are those of `bytes_of`.
-- Assumes nothing.
use Rattle.std.proofs.Common.{◌≡◌, ℕ, ◌^◌, ◌<◌, arith}
use Rattle.std.specs.Int.{to_le_bytes, to_be_bytes, w16, w32, w64}
use Rattle.endian.specs.Number.{bytes_of}
use Rattle.endian.specs.declared.Order.TheVariants.{Little, Big}

pub little2 : (n : ℕ) → n < 2 ^ 16 → to_le_bytes w16 n ≡ bytes_of Little 2 n
unfolding bytes_of
little2 n h = grind arith

pub big2 : (n : ℕ) → n < 2 ^ 16 → to_be_bytes w16 n ≡ bytes_of Big 2 n
unfolding bytes_of
big2 n h = grind arith

pub little4 : (n : ℕ) → n < 2 ^ 32 → to_le_bytes w32 n ≡ bytes_of Little 4 n
unfolding bytes_of
little4 n h = grind arith

pub big4 : (n : ℕ) → n < 2 ^ 32 → to_be_bytes w32 n ≡ bytes_of Big 4 n
unfolding bytes_of
big4 n h = grind arith

pub little8 : (n : ℕ) → n < 2 ^ 64 → to_le_bytes w64 n ≡ bytes_of Little 8 n
unfolding bytes_of
little8 n h = grind arith

pub big8 : (n : ℕ) → n < 2 ^ 64 → to_be_bytes w64 n ≡ bytes_of Big 8 n
unfolding bytes_of
big8 n h = grind arith
