-- Found: in a well-formed table the lookup finds a symbol exactly when the search through all symbols but number 0 does, and
-- the one that it finds has the name.
-- Assumes nothing.
use Prim.Native.Nat.{ℕ, zero, suc, ◌+◌, ◌*◌, ◌-◌, ◌%◌, ◌<◌, ◌≤◌}
use native.Mathlib.Nat.{add-zero, add-suc, mod-lt}
use native.Mathlib.Omega.{arith}
use mathlib.Core.Path.{◌≡◌, refl, sym, ◌∙◌}
use mathlib.Core.Bool.{Bool, true, false, cond, ◌&&◌, ◌||◌}
use mathlib.Core.List.{List}
use lib.ListN.{length}
use lib.Dec.{eqb, leb}
use borrow.Author.Tests.{eqb-false, ne_eqb, leb-false, lt-leb}
use Rattle.endian.specs.Place.{size_of, symbol}
use Rattle.endian.specs.declared.Order.{Order}
use Rattle.endian.specs.declared.Class.{Class}
use Rattle.parse.specs.Entry.{entry_fault, count_of}
use Rattle.parse.specs.First.{first_from}
use Rattle.std.specs.Prelude.{Option, Some, None, Result, Ok, Err, ⊤}
use Rattle.std.specs.Result.{is_ok}
use Rattle.endian.specs.Range.{◌>>=◌}
use Rattle.endian.specs.declared.fault.Fault.{Fault}
use Rattle.parse.proofs.Laws.{readable, counted, first_bounds}
use Rattle.string_table.specs.Text.{text_fault, text_at, same_bytes}
use Rattle.string_table.proofs.Search.{first_nothing, first_at}
use Rattle.string_table.proofs.Laws.{same_equal, same_known}
use Rattle.hash.specs.Sysv.{sysv_hash}
use Rattle.hash.specs.Table.{bucket_count, chain_count, hash_fault, chain_at}
use Rattle.hash.specs.Find.{symbol_count, name_of, next_of, turn_of, after_turn, walk_by, walk_of, start_of, find_of}
use Rattle.hash.specs.Formed.{link_at, Listed, WellFormed, is_named, search_of, Finds}
use Rattle.hash.specs.declared.Turn.{Turn}
use Rattle.hash.specs.declared.Turn.TheVariants.{Next, Same}
use Rattle.hash.proofs.Laws.{size_room, head_small}
use Rattle.hash.proofs.Pigeon.{pigeons}

-- what is known of a symbol that a turn finds
module _ (c : Class) (e : Order) (h syms strs name : List ℕ) where
  record Right (i : ℕ) : Type 0 where
    listed : Listed c e h syms strs i
    fine : text_fault strs (name_of c e syms i) ≡ Ok tt
    same : text_at strs (name_of c e syms i) ≡ name

  turn_right : (i : ℕ) → 0 < i → turn_of c e h syms strs name i ≡ Ok Same → Right i
  unfolding turn_of next_of
  turn_right i p =
      pick (entry_fault (size_of symbol c) (length syms) i) (text_fault strs (name_of c e syms i))
      (same_bytes (text_at strs (name_of c e syms i)) name) (entry_fault 4 (4 * chain_count e h) i) refl refl refl
    where
      pick : (a b : Result ⊤ Fault) (s : Bool) (n : Result ⊤ Fault) → entry_fault (size_of symbol c) (length syms) i ≡ a
          → text_fault strs (name_of c e syms i) ≡ b → same_bytes (text_at strs (name_of c e syms i)) name ≡ s
          → (a >>= λ _. b >>= λ _. cond s (Ok Same) (n >>= λ _. Ok (Next (chain_at e h i)))) ≡ Ok Same
          → Right i
      pick (Ok u) (Ok v) true n q r s g =
          record {
            listed = record { above = p; below = counted (size_of symbol c) (length syms) i (omega (arith, size_room c)) q };
            fine = r;
            same = same_known _ _ s;
          }
      pick (Ok u) (Ok v) false (Ok w) q r s g = cc
      pick (Ok u) (Ok v) false (Err f) q r s g = cc
      pick (Ok u) (Err f) s n q r t g = cc
      pick (Err f) b s n q r t g = cc

  walk_right : (n i j : ℕ) → walk_of c e h syms strs name n i ≡ Ok (Some j) → Right j
  unfolding walk_by
  walk_right zero i j p = cc
  walk_right (suc n) i j p = pick (walk_right n) (eqb i 0) (turn_of c e h syms strs name i) refl refl p
    where
      pick : ((i j : ℕ) → walk_of c e h syms strs name n i ≡ Ok (Some j) → Right j) → (a : Bool) (t : Result Turn Fault) → eqb i 0 ≡ a → turn_of c e h syms strs name i ≡ t
          → cond a (Ok None) (after_turn i (walk_of c e h syms strs name n) t) ≡ Ok (Some j) → Right j
      pick f true t q r g = cc
      pick f false (Ok (Next k)) q r g = f k j g
      pick f false (Ok Same) q r g = let k : i ≡ j = cc in let b : i ≡ 0 → ⊥ = eqb-false _ _ q in rw k at (turn_right i (omega arith) r)
      pick f false (Err x) q r g = cc

  find_right : (j : ℕ) → find_of c e h syms strs name ≡ Ok (Some j) → Right j
  unfolding find_of
  find_right j p = pick (hash_fault e h) (eqb (bucket_count e h) 0) p
    where
      pick : (a : Result ⊤ Fault) (b : Bool) → (a >>= λ _. cond b (Ok None) (walk_of c e h syms strs name (chain_count e h) (start_of c e h syms strs name))) ≡ Ok (Some j) → Right j
      pick (Ok u) true g = cc
      pick (Ok u) false g = walk_right (chain_count e h) (start_of c e h syms strs name) j g
      pick (Err f) b g = cc

  -- a symbol that a lookup finds is one that a search finds
  find_only : (j : ℕ) → find_of c e h syms strs name ≡ Ok (Some j) → (i : ℕ) × (search_of c e h syms strs name ≡ Some i)
  unfolding search_of
  find_only j p = pick (find_right j p) (first_from (is_named c e h syms strs name) (symbol_count c syms - 1) 1) refl
    where
      pick : Right j → (f : Option ℕ) → first_from (is_named c e h syms strs name) (symbol_count c syms - 1) 1 ≡ f
          → (i : ℕ) × (first_from (is_named c e h syms strs name) (symbol_count c syms - 1) 1 ≡ Some i)
      pick r (Some i) q = (i, q)
      pick r None q =
          let l = r.listed in
          let no = first_nothing (is_named c e h syms strs name) (symbol_count c syms - 1) 1 q j (omega (arith, l.above)) (omega (arith, l.above, l.below)) in
          let yes : is_named c e h syms strs name j ≡ true = rw (r.fine, same_equal _ _ r.same) in
          let t : true ≡ false = sym yes ∙ no in
          cc

-- chains of a well-formed table
module _ (c : Class) (e : Order) (h syms strs : List ℕ) (w : WellFormed c e h syms strs) where
  -- an index that a chain goes on from is a symbol
  link_back : (b l : ℕ) → 0 < link_at e h b (suc l) → Listed c e h syms strs (link_at e h b l)
  unfolding link_at
  link_back b l p = pick (eqb (link_at e h b l) 0) (leb (chain_count e h) (link_at e h b l)) refl refl p
    where
      pick : (z o : Bool) → eqb (link_at e h b l) 0 ≡ z → leb (chain_count e h) (link_at e h b l) ≡ o
          → 0 < cond (z || o) 0 (chain_at e h (link_at e h b l)) → Listed c e h syms strs (link_at e h b l)
      pick true o q r g = absurd (omega arith)
      pick false true q r g = absurd (omega arith)
      pick false false q r g =
          let n : link_at e h b l ≡ 0 → ⊥ = eqb-false _ _ q in
          let m : link_at e h b l < chain_count e h = leb-false _ _ r in
          record { above = omega arith; below = rw w.counted at m }

  -- so every index before a symbol in its chain is one
  link_listed : (b l d : ℕ) → Listed c e h syms strs (link_at e h b (l + d)) → Listed c e h syms strs (link_at e h b l)
  link_listed b l zero p = rw (add-zero l) at p
  link_listed b l (suc d) p =
      let q : Listed c e h syms strs (link_at e h b (suc (l + d))) = rw (add-suc l d) at p in
      link_listed b l d (link_back b (l + d) q.above)

  before : (b l k : ℕ) → l ≤ k → Listed c e h syms strs (link_at e h b k) → Listed c e h syms strs (link_at e h b l)
  before b l k p q = let e : k ≡ l + (k - l) = omega arith in link_listed b l (k - l) (rw e at q)

  -- a symbol stands at a place of its chain that is below the number of chain entries: all before it are other symbols
  place_small : (b k : ℕ) → b < bucket_count e h → Listed c e h syms strs (link_at e h b k) → k < chain_count e h
  place_small b k p q =
      let n = symbol_count c syms in
      let m : suc k ≤ n = pigeons n (suc k) (link_at e h b) (λ i r. (before b i k (omega arith) q).below)
      (λ i j r s t. (w.once (link_at e h b i) (before b i k (omega arith) q) b b i j p p refl (sym t)).1) in
      rw w.counted m

  -- a turn at a symbol
  turn_listed : (name : List ℕ) (i : ℕ) → Listed c e h syms strs i
      → turn_of c e h syms strs name i ≡ cond (same_bytes (text_at strs (name_of c e syms i)) name) (Ok Same) (Ok (Next (chain_at e h i)))
  unfolding turn_of next_of count_of
  turn_listed name i p =
      let g : i < chain_count e h = rw w.counted p.below in
      rw (
        readable (size_of symbol c) (length syms) i (omega (arith, size_room c)) w.held p.below,
        w.named i p,
        readable 4 (4 * chain_count e h) i (omega arith) (head_small e h w.readable) (omega arith),
      )

  link_next : (b l : ℕ) → Listed c e h syms strs (link_at e h b l) → chain_at e h (link_at e h b l) ≡ link_at e h b (suc l)
  unfolding link_at
  link_next b l p =
      let g : link_at e h b l < chain_count e h = rw w.counted p.below in
      let a = p.above in
      rw (ne_eqb (link_at e h b l) 0 (λ z. omega arith), lt-leb (chain_count e h) (link_at e h b l) g)

  -- the walk along a chain in which a symbol with the name stands at the place k
  module _ (name : List ℕ) (b k : ℕ) (there : Listed c e h syms strs (link_at e h b k))
      (same : text_at strs (name_of c e syms (link_at e h b k)) ≡ name) where
    reach : (m l : ℕ) → l ≤ k → k < l + m → (j : ℕ) × (walk_of c e h syms strs name m (link_at e h b l) ≡ Ok (Some j))
    unfolding walk_by
    reach zero l p q = absurd (omega arith)
    reach (suc m) l p q =
        pick (before b l k p there) (λ r s. reach m (suc l) r s) (same_bytes (text_at strs (name_of c e syms (link_at e h b l))) name) refl
      where
        pick : Listed c e h syms strs (link_at e h b l)
            → (suc l ≤ k → k < suc l + m → (j : ℕ) × (walk_of c e h syms strs name m (link_at e h b (suc l)) ≡ Ok (Some j)))
            → (t : Bool) → same_bytes (text_at strs (name_of c e syms (link_at e h b l))) name ≡ t
            → (j : ℕ) × (cond (eqb (link_at e h b l) 0) (Ok None) (after_turn (link_at e h b l) (walk_of c e h syms strs name m) (turn_of c e h syms strs name (link_at e h b l))) ≡ Ok (Some j))
        pick s f true t = (link_at e h b l, rw (ne_eqb (link_at e h b l) 0 (λ z. omega (arith, s.above)), turn_listed name (link_at e h b l) s, t))
        pick s f false t =
            let other : l ≡ k → ⊥ = λ g.
            let u : same_bytes (text_at strs (name_of c e syms (link_at e h b l))) name ≡ true = rw g (same_equal _ _ same) in
            let v : true ≡ false = sym u ∙ t in
            cc in
            let r = f (omega arith) (omega arith) in
            (r.0, rw (ne_eqb (link_at e h b l) 0 (λ z. omega (arith, s.above)), turn_listed name (link_at e h b l) s, t, link_next b l s) r.1)

  -- a symbol with the name, found
  find_listed : (name : List ℕ) (i : ℕ) → Listed c e h syms strs i → text_at strs (name_of c e syms i) ≡ name
      → (j : ℕ) × (find_of c e h syms strs name ≡ Ok (Some j))
  unfolding find_of link_at
  find_listed name i p q =
      let some = w.bucket i p in
      let at = w.placed i p in
      let b = sysv_hash name % bucket_count e h in
      let place : link_at e h b at.0 ≡ i = rw q at at.1 in
      let there : Listed c e h syms strs (link_at e h b at.0) = rw place p in
      let same : text_at strs (name_of c e syms (link_at e h b at.0)) ≡ name = rw place q in
      let low = place_small b at.0 (mod-lt (sysv_hash name) some) there in
      let r = reach name b at.0 there same (chain_count e h) 0 (omega arith) (omega arith) in
      (r.0, rw (w.readable, ne_eqb (bucket_count e h) 0 (λ z. omega arith)) r.1)

  search_listed : (name : List ℕ) (i : ℕ) → search_of c e h syms strs name ≡ Some i → Listed c e h syms strs i × (text_at strs (name_of c e syms i) ≡ name)
  unfolding search_of
  search_listed name i p =
      let n = symbol_count c syms in
      let g = first_bounds (is_named c e h syms strs name) (n - 1) 1 i p in
      let t = (first_at (is_named c e h syms strs name) (n - 1) 1 i p).0 in
      (record { above = omega arith; below = omega arith }, same_known _ _ (second (is_ok (text_fault strs (name_of c e syms i))) (same_bytes (text_at strs (name_of c e syms i)) name) t))
    where
      second : (a b : Bool) → (a && b) ≡ true → b ≡ true
      second true b q = q
      second false b q = cc

  pub finds : (name : List ℕ) → Finds c e h syms strs name
  finds name = record {
    found = λ i p. let g = search_listed name i p in find_listed name i g.0 g.1;
    only = find_only c e h syms strs name;
    right = λ j p. let g = find_right c e h syms strs name j p in (g.listed, g.same);
  }
