-- The records of a load plan, in bytes (document 01, section 7): six 64-bit numbers, lowest byte first.
-- record_at t k       the k-th record of the table t
-- record_bytes r      a record in bytes
-- table_bytes rs      records in bytes, one after the other
-- Small r             each number of a record fits in 64 bits
-- Assumes nothing.
use Rattle.std.specs.Prelude.{ℕ, ◌+◌, ◌*◌, ◌^◌, ◌<◌, List, [], ◌∷◌, ◌++◌}
use Rattle.endian.specs.Number.{number_at, bytes_of}
use Rattle.endian.specs.declared.Order.TheVariants.{Little}
use Rattle.records.specs.declared.Record.{Record}

unfoldable pub record_at : List ℕ → ℕ → Record
record_at t k = record {
  page = number_at Little 8 t (48 * k);
  len = number_at Little 8 t (48 * k + 8);
  prot = number_at Little 8 t (48 * k + 16);
  at = number_at Little 8 t (48 * k + 24);
  count = number_at Little 8 t (48 * k + 32);
  from = number_at Little 8 t (48 * k + 40);
}

abbrev pub three_bytes : ℕ → ℕ → ℕ → List ℕ
three_bytes a b c = bytes_of Little 8 a ++ (bytes_of Little 8 b ++ bytes_of Little 8 c)

unfoldable pub record_bytes : Record → List ℕ
record_bytes r = three_bytes r.page r.len r.prot ++ three_bytes r.at r.count r.from

unfoldable pub table_bytes : List Record → List ℕ
table_bytes [] = []
table_bytes (r ∷ rs) = record_bytes r ++ table_bytes rs

pub record Small (r : Record) : Type 0 where
  pub page : r.page < 2 ^ 64
  pub len : r.len < 2 ^ 64
  pub prot : r.prot < 2 ^ 64
  pub at : r.at < 2 ^ 64
  pub count : r.count < 2 ^ 64
  pub from : r.from < 2 ^ 64
