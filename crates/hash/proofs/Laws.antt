-- The laws of the hash, of a table's header, of a turn and of the lookup, as the code meets them.
-- Assumes nothing.
use Prim.Native.Nat.{ℕ, zero, suc, ◌+◌, ◌*◌, ◌-◌, ◌/◌, ◌%◌, ◌^◌, ◌<◌, ◌≤◌}
use native.Mathlib.Nat.{add-zero}
use native.Mathlib.Omega.{arith}
use mathlib.Core.Path.{◌≡◌, refl, ap}
use mathlib.Core.Bool.{Bool, true, false}
use mathlib.Core.List.{List, [], ◌∷◌, ◌++◌}
use lib.ListN.{length}
use lib.Dec.{leb}
use borrow.Author.Tests.{le-leb, lt-leb, leb-true, leb-false, ne_eqb}
use Rattle.std.specs.Prelude.{None, Result, Ok, Err, ⊤}
use Rattle.std.proofs.lemmas.Bool.Decides.{nat_tests}
use Rattle.endian.specs.Number.{number_at}
use Rattle.endian.specs.Range.{range_fault, answer, ◌>>=◌}
use Rattle.endian.specs.Place.{size_of, symbol}
use Rattle.endian.specs.declared.fault.Fault.{Fault}
use Rattle.endian.specs.declared.fault.Fault.TheVariants.{OutsideData}
use Rattle.endian.specs.declared.Order.{Order}
use Rattle.endian.specs.declared.Class.{Class}
use Rattle.endian.specs.declared.Class.TheVariants.{Elf32, Elf64}
use Rattle.parse.specs.Entry.{entry_fault, count_of}
use Rattle.parse.proofs.Laws.{readable, counted}
use Rattle.symbol.specs.Layout.{symbol_at}
use Rattle.hash.specs.Sysv.{sysv_step, sysv_from, sysv_hash}
use Rattle.hash.specs.Table.{bucket_count, chain_count, chain_place, hash_fault, head_of}
use Rattle.hash.specs.Find.{name_of, after_turn, walk_by}
use Rattle.hash.specs.declared.Head.{Head}
use Rattle.hash.specs.declared.Turn.{Turn}

-- the hash of a name with one byte more
pub hash_more : (h : ℕ) (s : List ℕ) (b : ℕ) → sysv_from h (s ++ (b ∷ [])) ≡ sysv_step (sysv_from h s) b
unfolding sysv_from
hash_more h [] b = refl
hash_more h (a ∷ s) b = hash_more (sysv_step h a) s b

pub hash_known : (s : List ℕ) (h : ℕ) → h ≡ sysv_from 0 s → h % 268435456 ≡ sysv_hash s
unfolding sysv_hash
hash_known s h p = rw p

range_in : (len o w : ℕ) → o + w ≤ len → len < 2 ^ 64 → range_fault len o w ≡ Ok tt
unfolding range_fault
range_in len o w p q = rw (lt-leb (2 ^ 64) (o + w) (omega arith), le-leb (o + w) len p)

range_out : (len o w : ℕ) → len < o + w → o + w < 2 ^ 64 → range_fault len o w ≡ Err OutsideData
unfolding range_fault
range_out len o w p q = rw (lt-leb (2 ^ 64) (o + w) q, lt-leb (o + w) len p)

-- no fault tells that the range lies in the data, and that its end fits
range_told : (len o w : ℕ) → range_fault len o w ≡ Ok tt → (o + w ≤ len) × (o + w < 2 ^ 64)
unfolding range_fault
range_told len o w p = (grind (arith, nat_tests), grind (arith, nat_tests))

-- what no fault of two tests tells of the second
second : (r s : Result ⊤ Fault) → (r >>= λ _. s) ≡ Ok tt → s ≡ Ok tt
second (Ok x) s p = p
second (Err f) s p = cc

module _ (e : Order) (h : List ℕ) where
  -- no room for the counts
  pub head_short : length h < 8 → hash_fault e h ≡ Err OutsideData
  unfolding hash_fault
  head_short p = pick (leb 4 (length h)) refl
    where
      rest : Result ⊤ Fault
      rest = range_fault (length h) 8 (4 * bucket_count e h) >>= λ _. range_fault (length h) (chain_place e h) (4 * chain_count e h)

      pick : (t : Bool) → leb 4 (length h) ≡ t → (range_fault (length h) 0 4 >>= λ _. range_fault (length h) 4 4 >>= λ _. rest) ≡ Err OutsideData
      pick true q = let k = leb-true 4 (length h) q in rw (range_in (length h) 0 4 (omega arith) (omega arith), range_out (length h) 4 4 (omega arith) (omega arith))
      pick false q = let k = leb-false 4 (length h) q in rw (range_out (length h) 0 4 (omega arith) (omega arith))

  -- both tables in the data
  pub head_fine : chain_place e h + 4 * chain_count e h ≤ length h → length h < 2 ^ 64 → hash_fault e h ≡ Ok tt
  unfolding hash_fault
  head_fine p q =
      rw (
        range_in (length h) 0 4 (omega arith) q,
        range_in (length h) 4 4 (omega arith) q,
        range_in (length h) 8 (4 * bucket_count e h) (omega arith) q,
        range_in (length h) (chain_place e h) (4 * chain_count e h) p q,
      )

  -- or not
  pub head_out : 8 ≤ length h → length h < chain_place e h + 4 * chain_count e h → chain_place e h + 4 * chain_count e h < 2 ^ 64 → hash_fault e h ≡ Err OutsideData
  unfolding hash_fault
  head_out r p q = rw (range_in (length h) 0 4 (omega arith) (omega arith), range_in (length h) 4 4 (omega arith) (omega arith)) (pick (leb (chain_place e h) (length h)) refl)
    where
      pick : (t : Bool) → leb (chain_place e h) (length h) ≡ t
          → (range_fault (length h) 8 (4 * bucket_count e h) >>= λ _. range_fault (length h) (chain_place e h) (4 * chain_count e h)) ≡ Err OutsideData
      pick true k =
          let g = leb-true _ _ k in
          rw (range_in (length h) 8 (4 * bucket_count e h) g (omega arith), range_out (length h) (chain_place e h) (4 * chain_count e h) p q)
      pick false k =
          let g : length h < chain_place e h = leb-false _ _ k in
          rw (range_out (length h) 8 (4 * bucket_count e h) g (omega arith))

  -- what no fault tells
  chains_fine : hash_fault e h ≡ Ok tt → range_fault (length h) (chain_place e h) (4 * chain_count e h) ≡ Ok tt
  unfolding hash_fault
  chains_fine p =
      let f = range_fault (length h) (chain_place e h) (4 * chain_count e h) in
      let b = range_fault (length h) 8 (4 * bucket_count e h) in
      let a = range_fault (length h) 4 4 in
      second b f (second a (b >>= λ _. f) (second (range_fault (length h) 0 4) (a >>= λ _. b >>= λ _. f) p))

  pub head_room : hash_fault e h ≡ Ok tt → chain_place e h + 4 * chain_count e h ≤ length h
  head_room p = (range_told (length h) (chain_place e h) (4 * chain_count e h) (chains_fine p)).0

  -- and that the sums fit
  pub head_small : hash_fault e h ≡ Ok tt → 4 * chain_count e h < 2 ^ 64
  head_small p = let k = (range_told (length h) (chain_place e h) (4 * chain_count e h) (chains_fine p)).1 in omega arith

  -- what a header that was told tells
  pub head_told : (d : Head) → answer (hash_fault e h) (head_of e h) ≡ Ok d → (hash_fault e h ≡ Ok tt) × (d ≡ head_of e h)
  head_told d p = pick (hash_fault e h) refl p
    where
      pick : (r : Result ⊤ Fault) → hash_fault e h ≡ r → answer r (head_of e h) ≡ Ok d → (hash_fault e h ≡ Ok tt) × (d ≡ head_of e h)
      pick (Ok u) q s = (q, cc)
      pick (Err f) q s = cc

  module _ (d : Head) (same : d ≡ head_of e h) where
    pub told_buckets : d.buckets ≡ bucket_count e h
    unfolding head_of
    told_buckets = ap (λ (x : Head). x.buckets) same

    pub told_chains : d.chains ≡ chain_count e h
    unfolding head_of
    told_chains = ap (λ (x : Head). x.chains) same

    pub told_room : hash_fault e h ≡ Ok tt → 8 + 4 * d.buckets + 4 * d.chains ≤ length h
    told_room p = rw (told_buckets, told_chains) (head_room p)

-- entry i of a table of n entries of four bytes is there exactly if i is below n
pub entry_here : (n i : ℕ) → 4 * n < 2 ^ 64 → i < n → entry_fault 4 (4 * n) i ≡ Ok tt
unfolding count_of
entry_here n i p q = readable 4 (4 * n) i (omega arith) p (omega arith)

pub entry_below : (n i : ℕ) → entry_fault 4 (4 * n) i ≡ Ok tt → i < n
unfolding count_of
entry_below n i p = let k : i < 4 * n / 4 = counted 4 (4 * n) i (omega arith) p in omega arith

-- a symbol's size, and where its name stands
pub size_room : (c : Class) → 4 ≤ size_of symbol c
size_room Elf32 = omega arith
size_room Elf64 = omega arith

pub name_read : (c : Class) (e : Order) (syms : List ℕ) (i : ℕ) → name_of c e syms i ≡ number_at e 4 syms (i * size_of symbol c)
unfolding symbol_at
name_read Elf32 e syms i = rw (add-zero (i * 16))
name_read Elf64 e syms i = rw (add-zero (i * 24))

-- a walk that is not over: what is left of n turns after k of them
module _ (turn : ℕ → Result Turn Fault) where
  pub walk_ended : (n : ℕ) → walk_by turn n 0 ≡ Ok None
  unfolding walk_by
  walk_ended zero = refl
  walk_ended (suc n) = refl

  pub walk_over : (n k i : ℕ) → n ≤ k → walk_by turn (n - k) i ≡ Ok None
  unfolding walk_by
  walk_over n k i h = let e : n - k ≡ 0 = omega arith in rw e

  pub walk_turn : (n k i : ℕ) → k < n → (i ≡ 0 → ⊥) → walk_by turn (n - k) i ≡ after_turn i (walk_by turn (n - (k + 1))) (turn i)
  unfolding walk_by
  walk_turn n k i p q = let e : n - k ≡ suc (n - (k + 1)) = omega arith in rw (e, ne_eqb i 0 q)
