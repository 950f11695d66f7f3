-- A table that is well-formed, so the predicate is not empty: one bucket, two chain entries, one symbol but number 0, with the name "a".
-- Assumes nothing.
use Prim.Native.Nat.{ℕ, zero, suc, ◌<◌}
use native.Mathlib.Omega.{arith}
use mathlib.Core.Path.{◌≡◌, refl, sym, ◌∙◌}
use mathlib.Core.List.{List, [], ◌∷◌, ◌++◌}
use lib.ListN.{replicate}
use Rattle.endian.specs.Number.{number_at}
use Rattle.std.specs.Prelude.{Some, Ok}
use Rattle.endian.specs.Range.{range_fault}
use Rattle.endian.specs.declared.Order.TheVariants.{Little}
use Rattle.endian.specs.declared.Class.TheVariants.{Elf32}
use Rattle.parse.specs.Entry.{count_of, entry_fault}
use Rattle.parse.specs.First.{first_from}
use Rattle.symbol.specs.Layout.{symbol_at}
use Rattle.string_table.specs.Text.{end_of, text_fault, text_at, same_bytes}
use Rattle.hash.specs.Sysv.{sysv_step, sysv_from, sysv_hash}
use Rattle.hash.specs.Table.{hash_fault}
use Rattle.hash.specs.Find.{name_of, next_of, turn_of, walk_by, find_of}
use Rattle.hash.specs.Formed.{link_at, bucket_of, Listed, WellFormed}

abbrev table : List ℕ
table = 1 ∷ 0 ∷ 0 ∷ 0 ∷ 2 ∷ 0 ∷ 0 ∷ 0 ∷ 1 ∷ replicate 11 0

abbrev symbols : List ℕ
symbols = replicate 16 0 ++ (1 ∷ replicate 15 0)

abbrev strings : List ℕ
strings = 0 ∷ 97 ∷ 0 ∷ []

only_one : (i : ℕ) → Listed Elf32 Little table symbols strings i → i ≡ 1
unfolding count_of
only_one i p = let a = p.above in let b : i < 2 = p.below in omega arith

-- the chain ends behind symbol 1
ended : (k : ℕ) → link_at Little table 0 (suc k) ≡ 0
unfolding link_at number_at
ended zero = refl
ended (suc k) = rw (ended k)

first : (k : ℕ) → link_at Little table 0 k ≡ 1 → k ≡ 0
first zero p = refl
first (suc k) p = let q = ended k in absurd (omega arith)

named : (i : ℕ) → i ≡ 1 → text_fault strings (name_of Elf32 Little symbols i) ≡ Ok tt
unfolding text_fault end_of first_from symbol_at number_at
named i p = rw p

placed : (i : ℕ) → i ≡ 1 → link_at Little table (bucket_of Elf32 Little table symbols strings i) 0 ≡ i
unfolding link_at text_at end_of first_from symbol_at number_at sysv_hash sysv_from sysv_step
placed i p = rw p

pub sample_formed : WellFormed Elf32 Little table symbols strings
unfolding hash_fault range_fault number_at count_of
sample_formed = record {
  held = omega arith;
  readable = refl;
  named = λ i p. named i (only_one i p);
  bucket = λ i p. omega arith;
  counted = refl;
  placed = λ i p. (0, placed i (only_one i p));
  once = λ i p a b k l q r s t.
      let x : a ≡ 0 = omega arith in
      let y : b ≡ 0 = omega arith in
      let o = only_one i p in
      let u : link_at Little table 0 k ≡ 1 = (rw x at s) ∙ o in
      let v : link_at Little table 0 l ≡ 1 = (rw y at t) ∙ o in
      (x ∙ sym y, first k u ∙ sym (first l v));
}

-- and its one name is found
pub sample_found : find_of Elf32 Little table symbols strings (97 ∷ []) ≡ Ok (Some 1)
unfolding find_of walk_by turn_of next_of hash_fault range_fault entry_fault text_fault text_at end_of first_from same_bytes symbol_at number_at sysv_hash sysv_from sysv_step
sample_found = refl
