-- Records that can be carried out in any order and again: each in its place, and all apart.
-- piece_byte f r a   the byte that a record puts at an address of its pages: a byte of the file, or zero
-- Neat, Pieces       a record whose bytes lie in its pages, in the memory and in the file; n records of a table that are so and lie apart
-- Same t n t' n'     two tables hold the same records, whatever their order
-- Shuffled t t' n     the n records of t' are those of t in another order
-- Assumes nothing.
use Rattle.std.specs.Prelude.{ℕ, ◌+◌, ◌-◌, ◌≤◌, ◌<◌, ◌≡◌, ◌&&◌, cond, List, ◌⊎◌, get_or, leb, ltb}
use Rattle.records.specs.Record.{record_at}
use Rattle.records.specs.declared.Record.{Record}
use Rattle.load_image.specs.Carry.{Fitted}

unfoldable pub piece_byte : List ℕ → Record → ℕ → ℕ
piece_byte f r a = cond (leb r.at a && ltb (a - r.at) r.count) (get_or f (r.from + (a - r.at)) 0) 0

pub record Neat (start mlen flen : ℕ) (r : Record) : Type 0 where
  pub fits : Fitted start mlen flen r
  pub front : r.page ≤ r.at
  pub back : r.at + r.count ≤ r.page + r.len

pub record Pieces (start mlen flen : ℕ) (t : List ℕ) (n : ℕ) : Type 0 where
  pub neat : (k : ℕ) → k < n → Neat start mlen flen (record_at t k)
  pub apart : (i k : ℕ) → i < k → k < n → ((record_at t i).page + (record_at t i).len ≤ (record_at t k).page) ⊎ ((record_at t k).page + (record_at t k).len ≤ (record_at t i).page)

pub record Same (t : List ℕ) (n : ℕ) (t' : List ℕ) (n' : ℕ) : Type 0 where
  pub there : (k : ℕ) → k < n → (i : ℕ) × (i < n') × (record_at t k ≡ record_at t' i)
  pub back : (k : ℕ) → k < n' → (i : ℕ) × (i < n) × (record_at t' k ≡ record_at t i)

pub record Shuffled (t t' : List ℕ) (n : ℕ) : Type 0 where
  pub to : ℕ → ℕ
  pub from : ℕ → ℕ
  pub to_below : (k : ℕ) → k < n → to k < n
  pub from_below : (k : ℕ) → k < n → from k < n
  pub left : (k : ℕ) → k < n → from (to k) ≡ k
  pub right : (k : ℕ) → k < n → to (from k) ≡ k
  pub is : (k : ℕ) → k < n → record_at t' k ≡ record_at t (to k)
