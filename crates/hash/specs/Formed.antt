-- Well-formed tables, as document 01 has them, and what a lookup in one finds.
-- link_at e h b k          the k-th index of the chain of bucket b, and 0 behind its end
-- bucket_of               the bucket of a symbol: its name's hash modulo the number of buckets
-- Listed                  i is a symbol but number 0
-- WellFormed              as many chain entries as symbols, and each symbol but number 0 stands once in the chain of its bucket and in no other
-- is_named, search_of     the search through all symbols but number 0
-- Finds                   the lookup finds a symbol exactly when the search does, and the one that it finds has the name
-- Assumes nothing.
use Rattle.std.specs.Prelude.{ℕ, zero, suc, ◌-◌, ◌%◌, ◌^◌, ◌<◌, ◌≡◌, Bool, cond, ◌&&◌, ◌||◌, List, length, eqb, leb, Option, Some, Ok}
use Rattle.std.specs.Result.{is_ok}
use Rattle.endian.specs.declared.Order.{Order}
use Rattle.endian.specs.declared.Class.{Class}
use Rattle.parse.specs.First.{first_from}
use Rattle.string_table.specs.Text.{text_fault, text_at, same_bytes}
use Rattle.hash.specs.Sysv.{sysv_hash}
use Rattle.hash.specs.Table.{bucket_count, chain_count, hash_fault, bucket_at, chain_at}
use Rattle.hash.specs.Find.{symbol_count, name_of, find_of}

-- a chain ends at index 0, and at an index that has no chain entry
abbrev pub link_from : Order → List ℕ → ℕ → ℕ
link_from e h i = cond (eqb i 0 || leb (chain_count e h) i) 0 (chain_at e h i)

unfoldable pub link_at : Order → List ℕ → ℕ → ℕ → ℕ
link_at e h b zero = bucket_at e h b
link_at e h b (suc k) = link_from e h (link_at e h b k)

module _ (c : Class) (e : Order) (h syms strs : List ℕ) where
  abbrev pub bucket_of : ℕ → ℕ
  bucket_of i = sysv_hash (text_at strs (name_of c e syms i)) % bucket_count e h

  pub record Listed (i : ℕ) : Type 0 where
    pub above : 0 < i
    pub below : i < symbol_count c syms

  -- document 01 says `counted`, `placed` and `once`; the rest it takes for granted: the symbols are a part of some memory, the
  -- table and the names can be read, and a symbol's bucket is there
  pub record WellFormed : Type 0 where
    pub held : length syms < 2 ^ 64
    pub readable : hash_fault e h ≡ Ok tt
    pub named : (i : ℕ) → Listed i → text_fault strs (name_of c e syms i) ≡ Ok tt
    pub bucket : (i : ℕ) → Listed i → 0 < bucket_count e h
    pub counted : chain_count e h ≡ symbol_count c syms
    pub placed : (i : ℕ) → Listed i → (k : ℕ) × (link_at e h (bucket_of i) k ≡ i)
    pub once : (i : ℕ) → Listed i → (a b k l : ℕ) → a < bucket_count e h → b < bucket_count e h
        → link_at e h a k ≡ i → link_at e h b l ≡ i → (a ≡ b) × (k ≡ l)

  abbrev pub is_named : List ℕ → ℕ → Bool
  is_named name i = is_ok (text_fault strs (name_of c e syms i)) && same_bytes (text_at strs (name_of c e syms i)) name

  unfoldable pub search_of : List ℕ → Option ℕ
  search_of name = first_from (is_named name) (symbol_count c syms - 1) 1

  pub record Finds (name : List ℕ) : Type 0 where
    pub found : (i : ℕ) → search_of name ≡ Some i → (j : ℕ) × (find_of c e h syms strs name ≡ Ok (Some j))
    pub only : (j : ℕ) → find_of c e h syms strs name ≡ Ok (Some j) → (i : ℕ) × (search_of name ≡ Some i)
    pub right : (j : ℕ) → find_of c e h syms strs name ≡ Ok (Some j) → Listed j × (text_at strs (name_of c e syms j) ≡ name)
