-- Dynamic entries of the System V ABI (chapter 5): where each field stands in an entry, in both classes.
-- place_of c f       the place of the field f in an entry of the class c
-- fields            every field, in the order of the places
-- dyn_at c e s o    the entry at o of the bytes s, in the class c and the order e
-- val_of d, ptr_of d  the union of an entry, read as d_val and as d_ptr: one field, as wide as an address in both
-- Assumes nothing.
use Rattle.std.specs.Prelude.{ℕ, ◌+◌, List, [], ◌∷◌}
use Rattle.endian.specs.Number.{signed}
use Rattle.endian.specs.Place.{Place, place, field_at}
use Rattle.endian.specs.declared.Order.{Order}
use Rattle.endian.specs.declared.Class.{Class}
use Rattle.endian.specs.declared.Class.TheVariants.{Elf32, Elf64}
use Rattle.dynamic.specs.declared.Dyn.{Dyn}

pub data Field : Type 0 where
  d_tag : Field
  d_un : Field

abbrev pub place_of : Class → Field → Place
place_of Elf32 d_tag = place 0 4
place_of Elf32 d_un = place 4 4
place_of Elf64 d_tag = place 0 8
place_of Elf64 d_un = place 8 8

abbrev pub fields : List Field
fields = d_tag ∷ d_un ∷ []

unfoldable pub dyn_at : Class → Order → List ℕ → ℕ → Dyn
dyn_at c e s o = record {
  tag = signed (place_of c d_tag).wide (field_at e (place_of c d_tag) s o);
  un = field_at e (place_of c d_un) s o;
}

abbrev pub val_of : Dyn → ℕ
val_of d = d.un

abbrev pub ptr_of : Dyn → ℕ
ptr_of d = d.un
