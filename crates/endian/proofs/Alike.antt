-- Two lists of bytes that agree in a part say the same in the fields of that part.
-- Within f g o n    they agree on the n bytes at o
-- Assumes nothing.
use Prim.Native.Nat.{ℕ, ◌+◌, ◌≤◌, ◌<◌}
use native.Mathlib.Omega.{arith}
use mathlib.Core.Path.{◌≡◌}
use mathlib.Core.List.{List}
use lib.ListN.{get_or}
use Rattle.endian.specs.Place.{Place, field_at}
use Rattle.endian.specs.declared.Order.{Order}
use Rattle.endian.proofs.Written.{number_same}

abbrev pub Within : List ℕ → List ℕ → ℕ → ℕ → Type 0
Within f g o n = (i : ℕ) → o ≤ i → i < o + n → get_or f i 0 ≡ get_or g i 0

pub field_same : (e : Order) (p : Place) (f g : List ℕ) (o n : ℕ) → p.at + p.wide ≤ n → Within f g o n → field_at e p f o ≡ field_at e p g o
field_same e p f g o n h s = number_same e p.wide f g (o + p.at) (λ i a b. s i (omega arith) (omega arith))
