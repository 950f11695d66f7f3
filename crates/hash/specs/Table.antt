-- A SysV hash table: two counts, then that many buckets and that many chain entries, all of four bytes.
-- bucket_count e h, chain_count e h   the counts
-- chain_place e h                     where the chain entries start
-- hash_fault e h                      OutsideData where a count or one of the two tables is outside the data (Overflow for an end beyond 64 bits)
-- head_of e h                          both counts
-- bucket_at e h b, chain_at e h i     what a bucket and a chain entry say
-- Assumes nothing.
use Rattle.std.specs.Prelude.{ℕ, ◌+◌, ◌*◌, List, length, Result, ⊤}
use Rattle.endian.specs.Number.{number_at}
use Rattle.endian.specs.Range.{range_fault, ◌>>=◌}
use Rattle.endian.specs.declared.fault.Fault.{Fault}
use Rattle.endian.specs.declared.Order.{Order}
use Rattle.hash.specs.declared.Head.{Head}

abbrev pub bucket_count : Order → List ℕ → ℕ
bucket_count e h = number_at e 4 h 0

abbrev pub chain_count : Order → List ℕ → ℕ
chain_count e h = number_at e 4 h 4

abbrev pub chain_place : Order → List ℕ → ℕ
chain_place e h = 8 + 4 * bucket_count e h

-- the counts, the buckets, the chain entries
unfoldable pub hash_fault : Order → List ℕ → Result ⊤ Fault
hash_fault e h =
    range_fault (length h) 0 4 >>= λ _.
    range_fault (length h) 4 4 >>= λ _.
    range_fault (length h) 8 (4 * bucket_count e h) >>= λ _.
    range_fault (length h) (chain_place e h) (4 * chain_count e h)

unfoldable pub head_of : Order → List ℕ → Head
head_of e h = record { buckets = bucket_count e h; chains = chain_count e h }

abbrev pub bucket_at : Order → List ℕ → ℕ → ℕ
bucket_at e h b = number_at e 4 h (8 + 4 * b)

abbrev pub chain_at : Order → List ℕ → ℕ → ℕ
chain_at e h i = number_at e 4 h (chain_place e h + 4 * i)
