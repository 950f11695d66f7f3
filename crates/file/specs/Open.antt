-- What reading the identification and the header answers: the first test that fails decides (document 01, section 4).
-- said a b      the class and the order that two bytes say
-- ident_of s    the class and the order that the identification says
-- header_of s   the header of a file
-- Assumes nothing.
use Rattle.std.specs.Prelude.{ℕ, List, Bool, cond, length, get_or, eqb, leb, Result, Ok, Err, ⊤}
use Rattle.endian.specs.Range.{◌>>=◌}
use Rattle.endian.specs.Place.{size_of, file_header}
use Rattle.endian.specs.Number.{number_at}
use Rattle.endian.specs.Said.{class_of, order_of}
use Rattle.endian.specs.declared.Order.TheVariants.{Big}
use Rattle.endian.specs.declared.fault.Fault.{Fault}
use Rattle.endian.specs.declared.fault.Fault.TheVariants.{BadMagic, BadVersion, OutsideData}
use Rattle.file.specs.declared.Ident.{Ident}
use Rattle.file.specs.declared.FileHeader.{FileHeader}
use Rattle.file.specs.Layout.{header_at}

-- Ok where the test passes, else the fault
abbrev pub test : Bool → Fault → Result ⊤ Fault
test b f = cond b (Ok tt) (Err f)

-- the class and the order that two bytes say, the class first (BadClass, BadOrder)
abbrev pub said : ℕ → ℕ → Result Ident Fault
said a b = do
  c ← class_of a
  e ← order_of b
  Ok (record { class = c; order = e })

-- the identification: 16 bytes (OutsideData), of which the first four are 7f 45 4c 46 (BadMagic), the seventh is version 1
-- (BadVersion), the fifth the class (BadClass), the sixth the order (BadOrder)
unfoldable pub ident_of : List ℕ → Result Ident Fault
ident_of s = do
  _ ← test (leb 16 (length s)) OutsideData
  _ ← test (eqb (number_at Big 4 s 0) 0x7f454c46) BadMagic
  _ ← test (eqb (get_or s 6 0) 1) BadVersion
  said (get_or s 4 0) (get_or s 5 0)

abbrev pub header_in : List ℕ → Ident → Result FileHeader Fault
header_in s i = cond (leb (size_of file_header i.class) (length s)) (Ok (header_at i.class i.order s)) (Err OutsideData)

unfoldable pub header_of : List ℕ → Result FileHeader Fault
header_of s = do
  i ← ident_of s
  header_in s i
