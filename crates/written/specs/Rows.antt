-- Tables of numbers that are written, each at its place, and what a writer of such a table does.
-- Row, row p v, at o w v   the number v that is written at a place
-- write_all e rs s          the bytes s with each row's bytes at its place, in the order e
-- Fitting rs, fits rs      each number is below 256 to the power of its width: the statement, and the test
-- all_fit c ns              each number fits a field that is as wide as the class: all numbers do in a 64-bit file
-- room_fault size n        NoRoom where n bytes are fewer than the size
-- fit_fault b              Overflow where b does not hold
-- write_fault size rs n    the two tests of a table, one after the other: room for its size, and that each number fits its width
-- after r w s              the bytes w where r is no fault, else the bytes s
-- Wrote f w s t b r        a writer found the bytes s, left the bytes t and answered r, which is f; s as it was where r is a fault, else w; and then b holds
-- Assumes nothing.
use Rattle.std.specs.Prelude.{ℕ, ◌^◌, ◌<◌, ◌≡◌, List, [], ◌∷◌, Bool, true, cond, ◌&&◌, ltb, Result, Ok, Err, ⊤}
use Rattle.std.specs.List.{list_all}
use Rattle.std.proofs.lemmas.List.Edits.{sets}
use Rattle.endian.specs.Number.{bytes_of}
use Rattle.endian.specs.Place.{Place}
use Rattle.endian.specs.Range.{◌>>=◌}
use Rattle.endian.specs.declared.Order.{Order}
use Rattle.endian.specs.declared.Class.{Class}
use Rattle.endian.specs.declared.Class.TheVariants.{Elf32, Elf64}
use Rattle.endian.specs.declared.fault.Fault.{Fault}
use Rattle.endian.specs.declared.fault.Fault.TheVariants.{Overflow, NoRoom}

pub record Row : Type 0 where
  pub at : ℕ
  pub wide : ℕ
  pub value : ℕ

abbrev pub at : ℕ → ℕ → ℕ → Row
at o w v = record { at = o; wide = w; value = v }

abbrev pub row : Place → ℕ → Row
row p v = at p.at p.wide v

abbrev pub write_all : Order → List Row → List ℕ → List ℕ
write_all e [] s = s
write_all e (r ∷ rs) s = write_all e rs (sets s r.at (bytes_of e r.wide r.value))

abbrev pub Fitting : List Row → Type 0
Fitting [] = Unit {0}
Fitting (r ∷ rs) = (r.value < 256 ^ r.wide) × Fitting rs

abbrev pub fits : List Row → Bool
fits [] = true
fits (r ∷ rs) = ltb r.value (256 ^ r.wide) && fits rs

-- each number has at most four bytes
abbrev pub narrow : List ℕ → Bool
narrow ns = list_all (λ n. ltb n (256 ^ 4)) ns

-- the numbers of a header that are as wide as the class
abbrev pub all_fit : Class → List ℕ → Bool
all_fit Elf32 ns = narrow ns
all_fit Elf64 ns = true

unfoldable pub room_fault : ℕ → ℕ → Result ⊤ Fault
room_fault size n = cond (ltb n size) (Err NoRoom) (Ok tt)

unfoldable pub fit_fault : Bool → Result ⊤ Fault
fit_fault b = cond b (Ok tt) (Err Overflow)

abbrev pub write_fault : ℕ → List Row → ℕ → Result ⊤ Fault
write_fault size rs n = do
  _ ← room_fault size n
  fit_fault (fits rs)

abbrev pub after : Result ⊤ Fault → List ℕ → List ℕ → List ℕ
after (Ok _) w s = w
after (Err _) w s = s

pub record Wrote (f : Result ⊤ Fault) (w s t : List ℕ) (b : Type 0) (r : Result ⊤ Fault) : Type 0 where
  pub fault : r ≡ f
  pub bytes : t ≡ after r w s
  pub reads_back : r ≡ Ok tt → b
