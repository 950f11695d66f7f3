-- A lookup takes at most as many turns as the table has chain entries, whatever the table holds.
-- Assumes nothing.
use Prim.Native.Nat.{ℕ, zero, suc, ◌≤◌}
use native.Mathlib.Omega.{arith}
use mathlib.Core.Bool.{Bool, true, false, cond}
use mathlib.Core.List.{List}
use lib.Dec.{eqb}
use Rattle.std.specs.Prelude.{Result, Ok, Err, ⊤}
use Rattle.endian.specs.declared.fault.Fault.{Fault}
use Rattle.endian.specs.declared.Order.{Order}
use Rattle.endian.specs.declared.Class.{Class}
use Rattle.hash.specs.Table.{bucket_count, chain_count, hash_fault}
use Rattle.hash.specs.Find.{turn_of, more_turns, where_fine, walk_turns, find_turns, start_of}
use Rattle.hash.specs.declared.Turn.{Turn}
use Rattle.hash.specs.declared.Turn.TheVariants.{Next, Same}

module _ (c : Class) (e : Order) (h syms strs name : List ℕ) where
  walk_turns_lem : (n i : ℕ) → walk_turns c e h syms strs name n i ≤ n
  unfolding walk_turns
  walk_turns_lem zero i = omega arith
  walk_turns_lem (suc n) i = pick (eqb i 0) (turn_of c e h syms strs name i) (walk_turns_lem n)
    where
      pick : (z : Bool) (t : Result Turn Fault) → ((j : ℕ) → walk_turns c e h syms strs name n j ≤ n) → cond z 0 (more_turns (walk_turns c e h syms strs name n) t) ≤ suc n
      pick true t f = omega arith
      pick false (Ok (Next j)) f = omega (arith, f j)
      pick false (Ok Same) f = omega arith
      pick false (Err g) f = omega arith

  pub find_turns_lem : find_turns c e h syms strs name ≤ chain_count e h
  unfolding find_turns
  find_turns_lem = pick (hash_fault e h) (eqb (bucket_count e h) 0)
    where
      pick : (a : Result ⊤ Fault) (b : Bool) → where_fine a (cond b 0 (walk_turns c e h syms strs name (chain_count e h) (start_of c e h syms strs name))) ≤ chain_count e h
      pick (Ok u) true = omega arith
      pick (Ok u) false = walk_turns_lem (chain_count e h) (start_of c e h syms strs name)
      pick (Err f) b = omega arith
