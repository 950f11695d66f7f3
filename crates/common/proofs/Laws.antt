-- The laws of the walk for common data: a fault stays the answer, and a hash table's header tells its range.
-- Assumes nothing.
use Rattle.std.proofs.Common.{◌≡◌, ℕ, zero, suc, ◌+◌, ◌*◌, ◌≤◌, List, length, Ok, Err, add-zero}
use native.Mathlib.Nat.{add-suc}
use Rattle.endian.specs.Range.{answer}
use Rattle.endian.specs.declared.fault.Fault.{Fault}
use Rattle.endian.specs.declared.Order.{Order}
use Rattle.parse.specs.Entry.{range_of}
use Rattle.hash.specs.Table.{hash_fault, head_of}
use Rattle.hash.specs.declared.Head.{Head}
use Rattle.hash.proofs.Laws.{head_told, told_room}
use Rattle.elf_bytes.specs.declared.Elf.{Elf}
use Rattle.common.specs.Common.{hash_in, step_of, below_of}
use Rattle.common.specs.declared.Common.{Common}

-- the table that a header says lies in its bytes
pub tables_inside : (e : Order) (t : List ℕ) (d : Head) → answer (hash_fault e t) (head_of e t) ≡ Ok d → 8 + 4 * d.buckets + 4 * d.chains ≤ length t
tables_inside e t d p = let q = head_told e t d p in told_room e t d q.1 q.0

pub hash_is : (e : Order) (t : List ℕ) (o : ℕ) (d : Head) → answer (hash_fault e t) (head_of e t) ≡ Ok d
    → hash_in e o t ≡ Ok (range_of o (8 + 4 * d.buckets + 4 * d.chains))
unfolding hash_in
hash_is e t o d p = let q = head_told e t d p in rw (q.0, q.1)

pub hash_refused : (e : Order) (t : List ℕ) (o : ℕ) (f : Fault) → answer (hash_fault e t) (head_of e t) ≡ Err f → hash_in e o t ≡ Err f
unfolding hash_in
hash_refused e t o f p = elim (hash_fault e t) as (λ r. answer r (head_of e t) ≡ Err f → answer r (range_of o (8 + 4 * (head_of e t).buckets + 4 * (head_of e t).chains)) ≡ Err f) [ Ok x ↦ λ q. cc | Err x ↦ λ q. cc ] p

-- a fault stays the answer, however many sections follow
pub below_refused : (s : List ℕ) (elf : Elf) (f : Fault) (k m : ℕ) → below_of s elf k ≡ Err f → below_of s elf (k + m) ≡ Err f
unfolding below_of
below_refused s elf f k zero h = rw add-zero h
below_refused s elf f k (suc m) h = rw (add-suc, below_refused s elf f k m h)

pub below_next : (s : List ℕ) (elf : Elf) (c : Common) (k : ℕ) → below_of s elf k ≡ Ok c → below_of s elf (suc k) ≡ step_of s elf c k
unfolding below_of
below_next s elf c k h = rw h
