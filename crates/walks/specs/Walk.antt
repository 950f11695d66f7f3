-- Walks over a table in batches: which rows a walk writes, and how many.
-- size_in k c              the bytes of an entry of the kind k in the class c
-- width_of k                the values of such an entry, how many
-- row_in k c e t o          the values of the entry at o of the table t
-- rows_from row i n         n rows from number i on, one behind the other
-- batch_of size len i width room  the smaller of how many entries there are from number i on and how many have room
-- Wrote size width row ..  what a walk over entries of so many bytes and values leaves: the rows in front, the rest as it was, and
--                          how many they are
-- Walked k ..              the same of entries of the kind k
-- Assumes nothing.
use Rattle.std.specs.Prelude.{ℕ, zero, suc, ◌+◌, ◌*◌, ◌-◌, ◌/◌, min, ◌≡◌, List, [], ◌++◌, length, drop}
use Rattle.endian.specs.Place.{size_of, section_header, program_header, symbol, rel, rela, dynamic}
use Rattle.endian.specs.declared.Order.{Order}
use Rattle.endian.specs.declared.Class.{Class}
use Rattle.section.specs.Layout.{section_at}
use Rattle.segment.specs.Layout.{segment_at}
use Rattle.symbol.specs.Layout.{symbol_at}
use Rattle.relocation.specs.Layout.{rel_at, rela_at}
use Rattle.dynamic.specs.Layout.{dyn_at}
use Rattle.rows.specs.Row.{section_row, segment_row, symbol_row, packed_row, rel_row, rela_row, dyn_row}

-- the kinds of entries that a walk visits; Packed: symbols, four values each
pub data Kind : Type 0 where
  Section : Kind
  Segment : Kind
  Symbol : Kind
  Packed : Kind
  Rel : Kind
  Rela : Kind
  Dyn : Kind

abbrev pub size_in : Kind → Class → ℕ
size_in Section c = size_of section_header c
size_in Segment c = size_of program_header c
size_in Symbol c = size_of symbol c
size_in Packed c = size_of symbol c
size_in Rel c = size_of rel c
size_in Rela c = size_of rela c
size_in Dyn c = size_of dynamic c

abbrev pub width_of : Kind → ℕ
width_of Section = 10
width_of Segment = 8
width_of Symbol = 6
width_of Packed = 4
width_of Rel = 3
width_of Rela = 4
width_of Dyn = 2

abbrev pub row_in : Kind → Class → Order → List ℕ → ℕ → List ℕ
row_in Section c e t o = section_row (section_at c e t o)
row_in Segment c e t o = segment_row (segment_at c e t o)
row_in Symbol c e t o = symbol_row (symbol_at c e t o)
row_in Packed c e t o = packed_row (symbol_at c e t o)
row_in Rel c e t o = rel_row (rel_at c e t o)
row_in Rela c e t o = rela_row (rela_at c e t o)
row_in Dyn c e t o = dyn_row (dyn_at c e t o)

unfoldable pub rows_from : (ℕ → List ℕ) → ℕ → ℕ → List ℕ
rows_from row i zero = []
rows_from row i (suc n) = rows_from row i n ++ row (i + n)

unfoldable pub batch_of : ℕ → ℕ → ℕ → ℕ → ℕ → ℕ
batch_of size len i width room = min (len / size - i) (room / width)

pub record Wrote (size : Class → ℕ) (width : ℕ) (row : Class → Order → List ℕ → ℕ → List ℕ) (c : Class) (e : Order) (t : List ℕ) (i : ℕ) (old new : List ℕ) (r : ℕ) : Type 0 where
  pub many : r ≡ batch_of (size c) (length t) i width (length old)
  pub written : new ≡ rows_from (λ k. row c e t (k * size c)) i r ++ drop (r * width) old

abbrev pub Walked : Kind → Class → Order → List ℕ → ℕ → List ℕ → List ℕ → ℕ → Type 0
Walked k = Wrote (size_in k) (width_of k) (row_in k)
