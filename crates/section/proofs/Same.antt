-- What is the same in both classes.
-- Assumes nothing.
use Prim.Native.Nat.{ℕ, ◌+◌}
use mathlib.Core.Path.{◌≡◌, refl}
use mathlib.Core.List.{List}
use Rattle.endian.specs.Number.{number_at}
use Rattle.endian.specs.declared.Order.{Order}
use Rattle.endian.specs.declared.Class.{Class}
use Rattle.endian.specs.declared.Class.TheVariants.{Elf32, Elf64}
use Rattle.section.specs.Layout.{section_at}

-- the type stands at the same place in both classes
pub kind_at : (c : Class) (e : Order) (s : List ℕ) (o : ℕ) → (section_at c e s o).kind ≡ number_at e 4 s (o + 4)
unfolding section_at
kind_at Elf32 e s o = refl
kind_at Elf64 e s o = refl
