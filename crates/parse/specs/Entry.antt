-- Entries of a table and ranges of the data.
-- entry_fault size len i  entry i of a table of len bytes whose entries are size bytes wide
-- count_of size len        how many whole entries such a table has: as many as a walk visits
-- range_of o n             the n bytes at o
-- range_at len o n        the same where they lie in len bytes of data (12, 11)
-- part_of s r             the bytes of the range r
-- Assumes nothing.
use Rattle.std.specs.Prelude.{ℕ, ◌+◌, ◌-◌, ◌*◌, ◌/◌, ◌^◌, cond, leb, ltb, eqb, List, take, drop, Result, Ok, Err, ⊤}
use Rattle.endian.specs.declared.fault.Fault.{Fault}
use Rattle.endian.specs.declared.fault.Fault.TheVariants.{BadOffset, Overflow, OutsideData}
use Rattle.endian.specs.Range.{range_fault, answer}
use Rattle.parse.specs.declared.Range.{Range}

-- an empty table (5); a product that overflows (12); a start beyond the end (5); an entry that is cut off (11)
unfoldable pub entry_fault : ℕ → ℕ → ℕ → Result ⊤ Fault
entry_fault size len i =
    cond (eqb len 0) (Err BadOffset)
    (cond (leb (2 ^ 64) (i * size)) (Err Overflow)
    (cond (ltb len (i * size)) (Err BadOffset)
    (cond (leb (i * size + size) len) (Ok tt) (Err OutsideData))))

unfoldable pub count_of : ℕ → ℕ → ℕ
count_of size len = cond (eqb size 0) 0 (len / size)

abbrev pub range_of : ℕ → ℕ → Range
range_of o n = record { from = o; to = o + n }

unfoldable pub range_at : ℕ → ℕ → ℕ → Result Range Fault
range_at len o n = answer (range_fault len o n) (range_of o n)

abbrev pub part_of : List ℕ → Range → List ℕ
part_of s r = take (r.to - r.from) (drop r.from s)
