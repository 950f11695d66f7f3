-- What crosses to C: the values of an answer in a lent array, or the number of a refusal and the array as it was.
-- Told row g old new r       what the answer g, whose values stand as row has them, says of the array before and after and of the number r
-- range_row r ..             the values of each kind of answer, in the order in which include/loadplan.h lists them
-- opening_of h o             what opening answers, of a header and of the tables
-- Assumes nothing.
use Rattle.std.specs.Prelude.{ℕ, ◌≡◌, List, [], ◌∷◌, ◌++◌, Option, Some, None, Result, Ok, Err}
use Rattle.endian.specs.Range.{number_of, ◌>>=◌}
use Rattle.endian.specs.Said.{class_byte, order_byte}
use Rattle.endian.specs.declared.fault.Fault.{Fault}
use Rattle.file.specs.declared.FileHeader.{FileHeader}
use Rattle.parse.specs.declared.Range.{Range}
use Rattle.elf_bytes.specs.declared.Elf.{Elf}
use Rattle.contents.specs.declared.SymbolTable.{SymbolTable}
use Rattle.common.specs.declared.Common.{Common}
use Rattle.hash.specs.declared.Head.{Head}
use Rattle.replies.specs.declared.Opening.{Opening}

-- a refusal leaves the array as it was
abbrev pub Told : {A R : Type 0} → (A → R) → Result A Fault → R → R → ℕ → Type 0
Told row (Err f) old new r = (r ≡ number_of f) × (new ≡ old)
Told row (Ok x) old new r = (r ≡ 0) × (new ≡ row x)

-- ---- ranges, tables, symbols

abbrev pub range_row : Range → List ℕ
range_row r = r.from ∷ r.to ∷ []

abbrev pub table_row : Option Range → List ℕ
table_row None = 0 ∷ 0 ∷ 0 ∷ []
table_row (Some r) = 1 ∷ r.from ∷ r.to ∷ []

abbrev pub pair_row : SymbolTable → List ℕ
pair_row t = t.symbols.from ∷ t.symbols.to ∷ t.strings.from ∷ t.strings.to ∷ []

abbrev pub symbols_row : Option SymbolTable → List ℕ
symbols_row None = 0 ∷ 0 ∷ 0 ∷ 0 ∷ 0 ∷ []
symbols_row (Some t) = 1 ∷ pair_row t

-- ---- what is looked for

abbrev pub found_row : Option ℕ → List ℕ
found_row None = 0 ∷ 0 ∷ []
found_row (Some i) = 1 ∷ i ∷ []

abbrev pub head_row : Head → List ℕ
head_row h = h.buckets ∷ h.chains ∷ []

-- ---- an opened file: its header, and where its tables stand

unfoldable pub opening_of : Result FileHeader Fault → Result Elf Fault → Result Opening Fault
opening_of h o = do
  header ← h
  elf ← o
  Ok (record { header = header; sections = elf.sections; segments = elf.segments })

abbrev pub header_row : FileHeader → List ℕ
header_row h =
    class_byte h.class
    ∷ order_byte h.order
    ∷ h.osabi
    ∷ h.abiversion
    ∷ h.version
    ∷ h.kind
    ∷ h.machine
    ∷ h.entry
    ∷ h.phoff
    ∷ h.shoff
    ∷ h.flags
    ∷ h.ehsize
    ∷ h.phentsize
    ∷ h.phnum
    ∷ h.shentsize
    ∷ h.shnum
    ∷ h.shstrndx
    ∷ []

abbrev pub opened_row : Opening → List ℕ
opened_row x = header_row x.header ++ (table_row x.sections ++ table_row x.segments)

-- ---- common data: both symbol tables, the dynamic entries, the hash table

abbrev pub common_row : Common → List ℕ
common_row c = symbols_row c.symtab ++ (symbols_row c.dynsym ++ (table_row c.dynamic ++ table_row c.hash))
