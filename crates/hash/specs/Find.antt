-- The lookup of a name: along the chain of its bucket, at most as many turns as there are chain entries.
-- symbol_count c syms                      how many symbols there are: whole entries of the table
-- name_of c e syms i                        where in the string table the name of symbol i stands
-- place_of c e syms i                       the same, or the fault of symbol i
-- turn_of c e h syms strs name i            one turn, at symbol i: found, the next index, or the first fault on the way
-- walk_by turn n i                          at most n turns, from the index i on
-- walk_of c e h syms strs name n i          the walk along a chain
-- find_of c e h syms strs name             the lookup
-- walk_turns, find_turns                   how many turns they take
-- Assumes nothing.
use Rattle.std.specs.Prelude.{ℕ, zero, suc, ◌*◌, ◌%◌, cond, List, length, eqb, Option, Some, None, Result, Ok, Err, ⊤}
use Rattle.endian.specs.Range.{answer, ◌>>=◌}
use Rattle.endian.specs.Place.{size_of, symbol}
use Rattle.endian.specs.declared.fault.Fault.{Fault}
use Rattle.endian.specs.declared.Order.{Order}
use Rattle.endian.specs.declared.Class.{Class}
use Rattle.parse.specs.Entry.{entry_fault, count_of}
use Rattle.symbol.specs.Layout.{symbol_at}
use Rattle.string_table.specs.Text.{text_fault, text_at, same_bytes}
use Rattle.hash.specs.Sysv.{sysv_hash}
use Rattle.hash.specs.Table.{bucket_count, chain_count, hash_fault, bucket_at, chain_at}
use Rattle.hash.specs.declared.Turn.{Turn}
use Rattle.hash.specs.declared.Turn.TheVariants.{Next, Same}

abbrev pub symbol_count : Class → List ℕ → ℕ
symbol_count c syms = count_of (size_of symbol c) (length syms)

abbrev pub name_of : Class → Order → List ℕ → ℕ → ℕ
name_of c e syms i = (symbol_at c e syms (i * size_of symbol c)).name

unfoldable pub place_of : Class → Order → List ℕ → ℕ → Result ℕ Fault
place_of c e syms i = answer (entry_fault (size_of symbol c) (length syms) i) (name_of c e syms i)

-- the chain is followed where the chain entry can be read
unfoldable pub next_of : Order → List ℕ → ℕ → Result Turn Fault
next_of e h i = answer (entry_fault 4 (4 * chain_count e h) i) (Next (chain_at e h i))

-- what the walk answers after a turn at i, and how many turns it has taken
abbrev pub after_turn : ℕ → (ℕ → Result (Option ℕ) Fault) → Result Turn Fault → Result (Option ℕ) Fault
after_turn i w (Ok (Next j)) = w j
after_turn i w (Ok Same) = Ok (Some i)
after_turn i w (Err f) = Err f

abbrev pub more_turns : (ℕ → ℕ) → Result Turn Fault → ℕ
more_turns w (Ok (Next j)) = suc (w j)
more_turns w (Ok Same) = 1
more_turns w (Err f) = 1

unfoldable pub walk_by : (ℕ → Result Turn Fault) → ℕ → ℕ → Result (Option ℕ) Fault
walk_by turn zero i = Ok None
walk_by turn (suc n) i = cond (eqb i 0) (Ok None) (after_turn i (walk_by turn n) (turn i))

-- none where there is a fault
abbrev pub where_fine : Result ⊤ Fault → ℕ → ℕ
where_fine (Ok u) n = n
where_fine (Err f) n = 0

module _ (c : Class) (e : Order) (h syms strs name : List ℕ) where
  -- the symbol, its name, the comparison, the chain entry
  unfoldable pub turn_of : ℕ → Result Turn Fault
  turn_of i =
      entry_fault (size_of symbol c) (length syms) i >>= λ _.
      text_fault strs (name_of c e syms i) >>= λ _.
      cond (same_bytes (text_at strs (name_of c e syms i)) name) (Ok Same) (next_of e h i)

  abbrev pub walk_of : ℕ → ℕ → Result (Option ℕ) Fault
  walk_of n i = walk_by turn_of n i

  -- the index that the bucket of the name says
  abbrev pub start_of : ℕ
  start_of = bucket_at e h (sysv_hash name % bucket_count e h)

  unfoldable pub find_of : Result (Option ℕ) Fault
  find_of = hash_fault e h >>= λ _. cond (eqb (bucket_count e h) 0) (Ok None) (walk_of (chain_count e h) start_of)

  unfoldable pub walk_turns : ℕ → ℕ → ℕ
  walk_turns zero i = 0
  walk_turns (suc n) i = cond (eqb i 0) 0 (more_turns (walk_turns n) (turn_of i))

  -- none where the table is refused or has no bucket
  unfoldable pub find_turns : ℕ
  find_turns = where_fine (hash_fault e h) (cond (eqb (bucket_count e h) 0) 0 (walk_turns (chain_count e h) start_of))
