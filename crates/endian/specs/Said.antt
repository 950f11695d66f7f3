-- What a byte of the identification says: the class and the order, in which C passes them too.
-- class_of b, order_of b      1 is the first, 2 the second, and every other number is refused
-- class_byte c, order_byte e  the byte that says a class or an order
-- Assumes nothing.
use Rattle.std.specs.Prelude.{ℕ, cond, eqb, Result, Ok, Err}
use Rattle.endian.specs.declared.Order.{Order}
use Rattle.endian.specs.declared.Order.TheVariants.{Little, Big}
use Rattle.endian.specs.declared.Class.{Class}
use Rattle.endian.specs.declared.Class.TheVariants.{Elf32, Elf64}
use Rattle.endian.specs.declared.fault.Fault.{Fault}
use Rattle.endian.specs.declared.fault.Fault.TheVariants.{BadClass, BadOrder}

abbrev pub class_of : ℕ → Result Class Fault
class_of b = cond (eqb b 1) (Ok Elf32) (cond (eqb b 2) (Ok Elf64) (Err BadClass))

abbrev pub order_of : ℕ → Result Order Fault
order_of b = cond (eqb b 1) (Ok Little) (cond (eqb b 2) (Ok Big) (Err BadOrder))

abbrev pub class_byte : Class → ℕ
class_byte Elf32 = 1
class_byte Elf64 = 2

abbrev pub order_byte : Order → ℕ
order_byte Little = 1
order_byte Big = 2
