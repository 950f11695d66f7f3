-- The memory after records are carried out, byte by byte, for any records whose bytes lie in their pages and whose pages lie apart.
-- From it: carrying out twice is carrying out once (Again), and the records may be carried out in any order (AnyOrder).
-- Assumes nothing.
use Prim.Native.Nat.{ℕ, zero, suc, ◌+◌, ◌-◌, ◌≤◌, ◌<◌}
use native.Mathlib.Nat.{eq-or-lt_of_le, le_of_suc-le-suc, not-suc-le-zero}
use native.Mathlib.Omega.{arith}
use mathlib.Core.Path.{◌≡◌, refl, sym, ap, ◌∙◌}
use mathlib.Core.Bool.{Bool, true, false, ◌&&◌, cond, true≢false}
use mathlib.Core.List.{List}
use mathlib.Core.Logic.{◌⊎◌, inl, inr, ⊎_elim}
use lib.ListN.{length, take, drop, get_or, replicate, length-replicate, get_or-replicate}
use lib.Seq.{get_or-take, get_or-drop, ext_get_or}
use lib.Dec.{leb, ltb}
use borrow.Author.Tests.{leb-true, leb-false, ltb-true, ltb-false, le-leb, lt-ltb}
use Rattle.memory.specs.Run.{put}
use Rattle.memory.proofs.Put.{put_in, put_below, put_above, length_put}
use Rattle.records.specs.Record.{record_at}
use Rattle.records.specs.declared.Record.{Record}
use Rattle.load_rules.specs.Rules.{any_below}
use Rattle.std.proofs.lemmas.Bool.Decides.{nat_tests}
use Rattle.load_rules.proofs.Tests.{none_at, found}
use Rattle.load_image.specs.Carry.{carried, carried_below}
use Rattle.load_image.specs.Pieces.{piece_byte, Neat, Pieces, Same}
use Rattle.load_image.proofs.Laws.{length_part}

-- ---- one record

module _ (start : ℕ) (f : List ℕ) (r : Record) (m : List ℕ) (p : Neat start (length m) (length f) r) where
  seen : List ℕ
  seen = take r.count (drop r.from f)

  blank : List ℕ
  blank = replicate r.len 0

  seen_length : length seen ≡ r.count
  unfolding seen
  seen_length = length_part r.from r.count f p.fits.in_file

  blank_length : length blank ≡ r.len
  unfolding blank
  blank_length = length-replicate r.len 0

  pages : List ℕ
  pages = put (r.page - start) blank m

  pages_fit : r.page - start + length blank ≤ length m
  pages_fit = omega (arith, blank_length, p.fits.page_high)

  pages_length : length pages ≡ length m
  unfolding pages
  pages_length = length_put (r.page - start) blank m pages_fit

  seen_fits : r.at - start + length seen ≤ length pages
  seen_fits = omega (arith, seen_length, pages_length, p.fits.at_high)

  after_is : carried start f r m ≡ put (r.at - start) seen pages
  unfolding pages seen blank carried
  after_is = refl

  pub after_length : length (carried start f r m) ≡ length m
  after_length = ap length after_is ∙ length_put (r.at - start) seen pages seen_fits ∙ pages_length

  -- off the pages
  pub off_below : (i : ℕ) → start + i < r.page → get_or (carried start f r m) i 0 ≡ get_or m i 0
  unfolding pages
  off_below i h =
      ap (λ (z : List ℕ). get_or z i 0) after_is
      ∙ put_below (r.at - start) seen pages seen_fits i (omega (arith, p.front))
      ∙ put_below (r.page - start) blank m pages_fit i (omega arith)

  pub off_above : (i : ℕ) → r.page + r.len ≤ start + i → get_or (carried start f r m) i 0 ≡ get_or m i 0
  unfolding pages
  off_above i h =
      ap (λ (z : List ℕ). get_or z i 0) after_is
      ∙ put_above (r.at - start) seen pages seen_fits i (omega (arith, seen_length, p.back, p.fits.at_low))
      ∙ put_above (r.page - start) blank m pages_fit i (omega (arith, blank_length, p.fits.page_low))

  zero_at : (i : ℕ) → r.page ≤ start + i → start + i < r.page + r.len → get_or pages i 0 ≡ 0
  unfolding pages blank
  zero_at i a b =
      put_in (r.page - start) blank m pages_fit i (omega arith) (omega (arith, blank_length, p.fits.page_low))
      ∙ get_or-replicate r.len (i - (r.page - start)) 0 0 (omega (arith, p.fits.page_low))

  -- on the pages
  pub on : (i : ℕ) → r.page ≤ start + i → start + i < r.page + r.len → get_or (carried start f r m) i 0 ≡ piece_byte f r (start + i)
  unfolding piece_byte seen
  on i ha hb = ap (λ (z : List ℕ). get_or z i 0) after_is ∙ go (leb r.at (start + i)) refl (ltb (start + i - r.at) r.count) refl
    where
      go : (x : Bool) → leb r.at (start + i) ≡ x → (y : Bool) → ltb (start + i - r.at) r.count ≡ y
          → get_or (put (r.at - start) seen pages) i 0 ≡ cond (x && y) (get_or f (r.from + (start + i - r.at)) 0) 0
      go true ex true ey =
          let lo = leb-true r.at (start + i) ex in
          let hi = ltb-true (start + i - r.at) r.count ey in
          let e : i - (r.at - start) ≡ start + i - r.at = omega (arith, p.fits.at_low) in
          put_in (r.at - start) seen pages seen_fits i (omega arith) (omega (arith, seen_length, p.fits.at_low))
          ∙ ap (λ (n : ℕ). get_or seen n 0) e
          ∙ get_or-take r.count (drop r.from f) (start + i - r.at) 0 hi
          ∙ get_or-drop r.from f (start + i - r.at) 0
      go true ex false ey =
          put_above (r.at - start) seen pages seen_fits i (omega (arith, seen_length, ltb-false (start + i - r.at) r.count ey, leb-true r.at (start + i) ex, p.fits.at_low))
          ∙ zero_at i ha hb
      go false ex y ey =
          put_below (r.at - start) seen pages seen_fits i (omega (arith, leb-false r.at (start + i) ex))
          ∙ zero_at i ha hb

-- ---- the records of a table, one after the other

abbrev covers : ℕ → List ℕ → ℕ → ℕ → Bool
covers start t i k = leb (record_at t k).page (start + i) && ltb (start + i) ((record_at t k).page + (record_at t k).len)

module _ (start : ℕ) (f t : List ℕ) (n : ℕ) (m : List ℕ) (p : Pieces start (length m) (length f) t n) where
  -- a record is neat in any memory of the same length
  neat_in : (m' : List ℕ) → length m' ≡ length m → (k : ℕ) → k < n → Neat start (length m') (length f) (record_at t k)
  neat_in m' e k h = rw e (p.neat k h)

  pub below_length : (k : ℕ) → k ≤ n → length (carried_below start f t k m) ≡ length m
  unfolding carried_below
  below_length zero h = refl
  below_length (suc k) h =
      let e = below_length k (omega arith) in
      after_length start f (record_at t k) (carried_below start f t k m) (neat_in (carried_below start f t k m) e k h) ∙ e

  -- each byte of a record's pages is the record's
  on_below : (k : ℕ) → k ≤ n → (j i : ℕ) → j < k → (record_at t j).page ≤ start + i → start + i < (record_at t j).page + (record_at t j).len
      → get_or (carried_below start f t k m) i 0 ≡ piece_byte f (record_at t j) (start + i)
  unfolding carried_below
  on_below zero h j i lt a b = absurd (not-suc-le-zero lt)
  on_below (suc k) h j i lt a b = go (on_below k (omega arith) j i) (eq-or-lt_of_le (le_of_suc-le-suc lt))
    where
      mem : List ℕ
      mem = carried_below start f t k m

      here : Neat start (length mem) (length f) (record_at t k)
      here = neat_in mem (below_length k (omega arith)) k h

      go : (j < k → (record_at t j).page ≤ start + i → start + i < (record_at t j).page + (record_at t j).len → get_or mem i 0 ≡ piece_byte f (record_at t j) (start + i))
          → (j ≡ k) ⊎ (j < k) → get_or (carried start f (record_at t k) mem) i 0 ≡ piece_byte f (record_at t j) (start + i)
      go ih = ⊎_elim
          (λ q. on start f (record_at t k) mem here i (rw q at a) (rw q at b) ∙ ap (λ (x : ℕ). piece_byte f (record_at t x) (start + i)) (sym q))
          (λ l. ⊎_elim
          (λ q. off_below start f (record_at t k) mem here i (omega arith) ∙ ih l a b)
          (λ q. off_above start f (record_at t k) mem here i (omega arith) ∙ ih l a b)
          (p.apart j k l h))

  -- each other byte is as it was
  off_all : (k : ℕ) → k ≤ n → (i : ℕ) → ((j : ℕ) → j < k → (record_at t j).page ≤ start + i → start + i < (record_at t j).page + (record_at t j).len → ⊥)
      → get_or (carried_below start f t k m) i 0 ≡ get_or m i 0
  unfolding carried_below
  off_all zero h i free = refl
  off_all (suc k) h i free = go (off_all k (omega arith) i (λ j lt. free j (omega arith))) (ltb (start + i) (record_at t k).page) refl
    where
      mem : List ℕ
      mem = carried_below start f t k m

      here : Neat start (length mem) (length f) (record_at t k)
      here = neat_in mem (below_length k (omega arith)) k h

      high : (record_at t k).page ≤ start + i → (b : Bool) → ltb (start + i) ((record_at t k).page + (record_at t k).len) ≡ b → (record_at t k).page + (record_at t k).len ≤ start + i
      high a true e = absurd (free k (omega arith) a (ltb-true _ _ e))
      high a false e = ltb-false _ _ e

      go : get_or mem i 0 ≡ get_or m i 0 → (b : Bool) → ltb (start + i) (record_at t k).page ≡ b → get_or (carried start f (record_at t k) mem) i 0 ≡ get_or m i 0
      go ih true e = off_below start f (record_at t k) mem here i (ltb-true _ _ e) ∙ ih
      go ih false e = off_above start f (record_at t k) mem here i (high (ltb-false _ _ e) (ltb (start + i) ((record_at t k).page + (record_at t k).len)) refl) ∙ ih

  pub all_length : length (carried_below start f t n m) ≡ length m
  all_length = below_length n (omega arith)

  pub on_piece : (k i : ℕ) → k < n → (record_at t k).page ≤ start + i → start + i < (record_at t k).page + (record_at t k).len
      → get_or (carried_below start f t n m) i 0 ≡ piece_byte f (record_at t k) (start + i)
  on_piece k i lt a b = on_below n (omega arith) k i lt a b

  pub off_pieces : (i : ℕ) → ((k : ℕ) → k < n → (record_at t k).page ≤ start + i → start + i < (record_at t k).page + (record_at t k).len → ⊥)
      → get_or (carried_below start f t n m) i 0 ≡ get_or m i 0
  off_pieces i free = off_all n (omega arith) i free

-- a byte is in the pages of a record, or in those of none
decide : (start : ℕ) (t : List ℕ) (n i : ℕ)
    → ((k : ℕ) × (k < n) × ((record_at t k).page ≤ start + i) × (start + i < (record_at t k).page + (record_at t k).len))
    ⊎ ((k : ℕ) → k < n → (record_at t k).page ≤ start + i → start + i < (record_at t k).page + (record_at t k).len → ⊥)
decide start t n i = go (any_below (covers start t i) n) refl
  where
    go : (b : Bool) → any_below (covers start t i) n ≡ b
        → ((k : ℕ) × (k < n) × ((record_at t k).page ≤ start + i) × (start + i < (record_at t k).page + (record_at t k).len))
        ⊎ ((k : ℕ) → k < n → (record_at t k).page ≤ start + i → start + i < (record_at t k).page + (record_at t k).len → ⊥)
    go true e =
        let q = found (covers start t i) n e in
        inl (q.0, q.1, grind (arith, nat_tests), grind (arith, nat_tests))
    go false e = inr (λ k lt a b. true≢false (sym (yes k a b) ∙ none_at (covers start t i) n k e lt))
      where
        yes : (k : ℕ) → (record_at t k).page ≤ start + i → start + i < (record_at t k).page + (record_at t k).len → covers start t i k ≡ true
        yes k a b = rw (le-leb _ _ a, lt-ltb _ _ b)

-- ---- carrying out twice is carrying out once

pub again : (start : ℕ) (f t : List ℕ) (n : ℕ) (m : List ℕ) → Pieces start (length m) (length f) t n
    → carried_below start f t n (carried_below start f t n m) ≡ carried_below start f t n m
again start f t n m p =
    ext_get_or 0 twice once (all_length start f t n once p')
    (λ i lt. ⊎_elim
    (λ q. on_piece start f t n once p' q.0 i q.1 q.2 q.3 ∙ sym (on_piece start f t n m p q.0 i q.1 q.2 q.3))
    (λ q. off_pieces start f t n once p' i q)
    (decide start t n i))
  where
    once : List ℕ
    once = carried_below start f t n m

    twice : List ℕ
    twice = carried_below start f t n once

    p' : Pieces start (length once) (length f) t n
    p' = rw (all_length start f t n m p) p

-- ---- the records may be carried out in any order

pub any_order : (start : ℕ) (f t : List ℕ) (n : ℕ) (t' : List ℕ) (n' : ℕ) (m : List ℕ) → Pieces start (length m) (length f) t n → Pieces start (length m) (length f) t' n'
    → Same t n t' n' → carried_below start f t n m ≡ carried_below start f t' n' m
any_order start f t n t' n' m p p' s =
    ext_get_or 0 (carried_below start f t n m) (carried_below start f t' n' m) (all_length start f t n m p ∙ sym (all_length start f t' n' m p'))
    (λ i lt. ⊎_elim
    (λ q.
    let o = s.there q.0 q.1 in
    let a : (record_at t' o.0).page ≤ start + i = rw o.2 at q.2 in
    let b : start + i < (record_at t' o.0).page + (record_at t' o.0).len = rw o.2 at q.3 in
    on_piece start f t n m p q.0 i q.1 q.2 q.3
    ∙ ap (λ (r : Record). piece_byte f r (start + i)) o.2
    ∙ sym (on_piece start f t' n' m p' o.0 i o.1 a b))
    (λ q.
    off_pieces start f t n m p i q
    ∙ sym (off_pieces start f t' n' m p' i (λ k h a b. let o = s.back k h in q o.0 o.1 (rw o.2 at a) (rw o.2 at b))))
    (decide start t n i))
