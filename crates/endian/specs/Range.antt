-- Whether w bytes at o lie in a length, and the answer of a reader that may refuse.
-- number_of f            document 01's number of the fault f
-- range_fault len o w       Overflow where the end overflows 64 bits, OutsideData where it is outside the length
-- a >>= f                  the first fault that is met decides
-- answer r v             the value v where the test r found no fault, else its fault
-- Assumes nothing.
use Rattle.std.specs.Prelude.{ℕ, ◌+◌, ◌^◌, cond, leb, Result, Ok, Err, ⊤}
use Rattle.endian.specs.declared.fault.Fault.{Fault}
use Rattle.endian.specs.declared.fault.Fault.TheVariants.{BadMagic, BadClass, BadOrder, BadVersion, BadOffset, NoZeroByte, BadEntrySize, BadSectionType, OutsideData, Overflow, NotUtf8, NoRoom}

abbrev pub number_of : Fault → ℕ
number_of BadMagic = 1
number_of BadClass = 2
number_of BadOrder = 3
number_of BadVersion = 4
number_of BadOffset = 5
number_of NoZeroByte = 6
number_of BadEntrySize = 7
number_of BadSectionType = 8
number_of OutsideData = 11
number_of Overflow = 12
number_of NotUtf8 = 13
number_of NoRoom = 14

infixl 10 ◌>>=◌
abbrev pub ◌>>=◌ : {A B : Type 0} → Result A Fault → (A → Result B Fault) → Result B Fault
(Ok x) >>= f = f x
(Err e) >>= f = Err e

unfoldable pub range_fault : ℕ → ℕ → ℕ → Result ⊤ Fault
range_fault len o w = cond (leb (2 ^ 64) (o + w)) (Err Overflow) (cond (leb (o + w) len) (Ok tt) (Err OutsideData))

abbrev pub answer : {A : Type 0} → Result ⊤ Fault → A → Result A Fault
answer r v = r >>= λ _. Ok v
