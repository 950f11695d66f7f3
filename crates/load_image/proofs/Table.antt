-- The table of an accepted file: its k-th record is that of a segment, in the order of the program headers; so its records keep the promises.
-- Assumes nothing.
use Prim.Native.Nat.{ℕ, zero, suc, ◌+◌, ◌-◌, ◌*◌, ◌/◌, ◌%◌, ◌≤◌, ◌<◌}
use native.Mathlib.Nat.{eq-or-lt_of_le, le_of_suc-le-suc, not-suc-le-zero}
use native.Mathlib.Omega.{arith}
use mathlib.Core.Path.{◌≡◌, refl, sym, ap, ◌∙◌, subst}
use mathlib.Core.Bool.{Bool, true, false, cond}
use mathlib.Core.List.{List, [], ◌∷◌, ◌++◌, append_assoc}
use mathlib.Core.Logic.{inl, ⊎_elim}
use lib.ListN.{length, get_or, length-append}
use lib.Dec.{ltb}
use borrow.Author.Tests.{eqb-true, eq-eqb, ltb-true, ltb-false}
use Rattle.segment.specs.declared.ProgramHeader.{ProgramHeader}
use Rattle.records.specs.Record.{record_at, record_bytes, table_bytes}
use Rattle.records.specs.declared.Record.{Record}
use Rattle.records.proofs.Laws.{length_table, table_snoc, decoded}
use Rattle.load_rules.specs.Rules.{real, low, record_of}
use Rattle.load_rules.specs.declared.Window.{Window}
use Rattle.load_plan.specs.Plan.{seg_at, records_below, plan_in}
use Rattle.load_plan.specs.Facts.{Accepted, count_below}
use Rattle.load_plan.specs.declared.Job.{Job}
use Rattle.load_plan.proofs.Order.{count_mono}
use Rattle.load_plan.proofs.Table.{length_records, plan_count}
use Rattle.load_image.specs.Carry.{carried_below}
use Rattle.load_image.specs.Pieces.{piece_byte, Neat, Pieces}
use Rattle.load_image.specs.Image.{byte_of, On, Loaded, SafeRecords, entry_of}
use Rattle.load_image.proofs.Laws.{Sound}
use Rattle.load_image.proofs.Pieces.{all_length, on_piece, off_pieces}
use Rattle.load_image.proofs.Segments.{Sits, Bounds, sits, bounds, apart, entered, not_both, record_small, record_neat, record_byte}

-- the k-th loaded segment
pub record Source (seg : ℕ → ProgramHeader) (n k : ℕ) : Type 0 where
  pub index : ℕ
  pub below : index < n
  pub is_real : real (seg index) ≡ true
  pub nth : count_below seg index ≡ k

pub source : (seg : ℕ → ProgramHeader) (n k : ℕ) → k < count_below seg n → Source seg n k
unfolding count_below
source seg zero k h = absurd (not-suc-le-zero h)
source seg (suc n) k h = go (source seg n k) (real (seg n)) refl h
  where
    later : Source seg n k → Source seg (suc n) k
    later q = record { index = q.index; below = omega (arith, q.below); is_real = q.is_real; nth = q.nth }

    go : (k < count_below seg n → Source seg n k) → (b : Bool) → real (seg n) ≡ b → k < cond b (count_below seg n + 1) (count_below seg n) → Source seg (suc n) k
    go ih true e l = ⊎_elim
        (λ q. record { index = n; below = omega arith; is_real = e; nth = sym q })
        (λ q. later (ih q))
        (eq-or-lt_of_le (let z : k ≤ count_below seg n = omega arith in z))
    go ih false e l = later (ih l)

-- one more, where a segment is loaded
pub count_after : (seg : ℕ → ProgramHeader) (i : ℕ) → real (seg i) ≡ true → count_below seg (suc i) ≡ count_below seg i + 1
unfolding count_below
count_after seg i r = rw r

module _ (f : List ℕ) (j : Job) (w : Window) (room : ℕ) (acc : Accepted f j w room) where
  seg : ℕ → ProgramHeader
  seg = seg_at f j

  rec : ℕ → Record
  rec i = record_of w.start (low j.kind w) (seg_at f j i)

  -- the bytes of the records before the k-th segment's, and then others
  tab : ℕ → List ℕ → List ℕ
  tab k x = table_bytes (records_below (seg_at f j) w.start (low j.kind w) k) ++ x

  grown : (k : ℕ) → real (seg_at f j k) ≡ true → (x : List ℕ) → tab (suc k) x ≡ tab k (record_bytes (rec k) ++ x)
  unfolding tab rec records_below
  grown k r x =
      let rs = records_below (seg_at f j) w.start (low j.kind w) k in
      ap (λ (b : Bool). table_bytes (cond b (rs ++ (rec k ∷ [])) rs) ++ x) r
      ∙ ap (λ (z : List ℕ). z ++ x) (table_snoc rs (rec k))
      ∙ append_assoc (table_bytes rs) (record_bytes (rec k)) x

  same_tab : (k : ℕ) → real (seg_at f j k) ≡ false → (x : List ℕ) → tab (suc k) x ≡ tab k x
  unfolding tab rec records_below
  same_tab k r x =
      let rs = records_below (seg_at f j) w.start (low j.kind w) k in
      ap (λ (b : Bool). table_bytes (cond b (rs ++ (rec k ∷ [])) rs) ++ x) r

  -- the table starts with the records of the segments before any
  starts : (n k : ℕ) → k ≤ n → (x : List ℕ) → (y : List ℕ) × (tab n x ≡ tab k y)
  starts zero k h x = let e : k ≡ 0 = omega arith in (x, ap (λ (i : ℕ). tab i x) (sym e))
  starts (suc n) k h x = ⊎_elim
      (λ q. (x, ap (λ (i : ℕ). tab i x) (sym q)))
      (λ q. go (starts n k (le_of_suc-le-suc q)) (real (seg_at f j n)) refl)
      (eq-or-lt_of_le h)
    where
      go : ((y : List ℕ) → (z : List ℕ) × (tab n y ≡ tab k z)) → (b : Bool) → real (seg_at f j n) ≡ b → (z : List ℕ) × (tab (suc n) x ≡ tab k z)
      go ih true e = let o = ih (record_bytes (rec n) ++ x) in (o.0, grown n e x ∙ o.1)
      go ih false e = let o = ih x in (o.0, same_tab n e x ∙ o.1)

  -- the record of a loaded segment stands where it is counted
  record_at_lem : (i : ℕ) → i < j.count → real (seg_at f j i) ≡ true → (x : List ℕ) → record_at (tab j.count x) (count_below (seg_at f j) i) ≡ rec i
  unfolding tab rec
  record_at_lem i lt r x =
      let rs = records_below (seg_at f j) w.start (low j.kind w) i in
      let o = starts j.count (suc i) lt x in
      let e = o.1 ∙ grown i r o.0 in
      let n : length (table_bytes rs) ≡ 48 * count_below (seg_at f j) i = length_table rs ∙ ap (λ (n : ℕ). 48 * n) (length_records (seg_at f j) w.start (low j.kind w) i) in
      ap (λ (t : List ℕ). record_at t (count_below (seg_at f j) i)) e
      ∙ decoded (rec i) (table_bytes rs) o.0 (count_below (seg_at f j) i) n (record_small (length f) (low j.kind w) w (seg_at f j i) (sits f j w room acc i lt r))

  -- ---- the table that the plan leaves, with anything behind the records

  module _ (x : List ℕ) where
    abbrev pub table : List ℕ
    table = table_bytes (plan_in f w j) ++ x

    abbrev pub many : ℕ
    many = length (plan_in f w j)

    -- the k-th record is that of the i-th segment
    record Known (k i : ℕ) : Type 0 where
      below : i < j.count
      is_real : real (seg_at f j i) ≡ true
      nth : count_below (seg_at f j) i ≡ k
      is : record_at table k ≡ record_of w.start (low j.kind w) (seg_at f j i)
      place : Sits (length f) (low j.kind w) w (seg_at f j i)
      edges : Bounds (low j.kind w) w (seg_at f j i)

    by_index : (i : ℕ) → i < j.count → real (seg_at f j i) ≡ true → Known (count_below (seg_at f j) i) i
    unfolding plan_in tab rec
    by_index i lt r =
        let p = sits f j w room acc i lt r in
        record { below = lt; is_real = r; nth = refl; is = record_at_lem i lt r x; place = p; edges = bounds (length f) (low j.kind w) w (seg_at f j i) p }

    known : (k : ℕ) → k < many → (i : ℕ) × Known k i
    known k h =
        let s = source (seg_at f j) j.count k (omega (arith, plan_count f w j)) in
        (s.index, subst (λ (c : ℕ). Known c s.index) s.nth (by_index s.index s.below s.is_real))

    counted : (i : ℕ) → i < j.count → real (seg_at f j i) ≡ true → count_below (seg_at f j) i < many
    counted i lt r = omega (arith, plan_count f w j, count_after (seg_at f j) i r, count_mono (seg_at f j) (suc i) j.count lt)

    -- records in the order of their segments
    ordered : (i k a b : ℕ) → Known i a → Known k b → i < k → a < b
    ordered i k a b p q lt = go (ltb a b) refl
      where
        go : (z : Bool) → ltb a b ≡ z → a < b
        go true e = ltb-true _ _ e
        go false e = absurd (omega (arith, count_mono (seg_at f j) b a (ltb-false _ _ e), p.nth, q.nth))

    neat_at : (k : ℕ) → k < many → Neat w.start w.len (length f) (record_at table k)
    neat_at k h = let q = (known k h).1 in rw q.is (record_neat (length f) (low j.kind w) w (seg_at f j (known k h).0) q.place)

    apart_at : (i k : ℕ) → i < k → k < many → (record_at table i).page + (record_at table i).len ≤ (record_at table k).page
    unfolding record_of
    apart_at i k lt h =
        let a = known i (omega arith) in
        let b = known k h in
        let p = a.1 in
        let q = b.1 in
        let s = apart f j w room acc a.0 b.0 (ordered i k a.0 b.0 p q lt) q.below p.is_real q.is_real in
        rw (p.is, q.is) (omega (arith, p.edges, q.edges, s))

    pub pieces : Pieces w.start w.len (length f) table many
    pieces = record { neat = neat_at; apart = λ i k lt h. inl (apart_at i k lt h) }

    pub sound_table : (mlen : ℕ) → mlen ≡ w.len → Sound w (length f) table many mlen
    sound_table mlen e =
        let n : length table ≡ 48 * many + length x = length-append (table_bytes (plan_in f w j)) x ∙ ap (λ (z : ℕ). z + length x) (length_table (plan_in f w j)) in
        record { holds = omega arith; memory_is = e; fitted = λ k lt. (neat_at k lt).fits }

    -- ---- the promises of the records

    in_window : (k : ℕ) → k < many → (w.start ≤ (record_at table k).page) × ((record_at table k).page + (record_at table k).len ≤ w.start + w.len)
    unfolding record_of
    in_window k h = let q = (known k h).1 in rw q.is (omega arith, omega (arith, q.edges))

    covered : (k : ℕ) → k < many → ((record_at table k).page % 4096 ≡ 0) × ((record_at table k).len % 4096 ≡ 0) × (0 < (record_at table k).len)
    unfolding record_of
    covered k h =
        let q = (known k h).1 in
        let a = q.place.place.page in
        let b = q.place.place.window_good.start_page in
        let e = q.edges in
        rw q.is (omega arith, omega arith, omega (arith, q.place.place.some_memory))

    never : (k : ℕ) → k < many → (record_at table k).prot % 2 ≡ 1 → (record_at table k).prot / 2 % 2 ≡ 1 → ⊥
    unfolding record_of
    never k h a b =
        let i = (known k h).0 in
        let q = (known k h).1 in
        let a' = rw q.is at a in
        let b' = rw q.is at b in
        not_both f j w room acc i q.below q.is_real (eq-eqb ((seg_at f j i).flags % 2) 1 (omega arith)) (eq-eqb ((seg_at f j i).flags / 2 % 2) 1 (omega arith))

    entry_in : (k : ℕ) × (k < many) × ((record_at table k).prot % 2 ≡ 1) × ((record_at table k).page ≤ entry_of j w) × (entry_of j w < (record_at table k).page + (record_at table k).len)
    unfolding record_of
    entry_in =
        let s = entered f j w room acc in
        let q = by_index s.0 s.1 s.2 in
        let l = q.edges in
        let y = eqb-true ((seg_at f j s.0).flags % 2) 1 s.3 in
        let lo = s.4 in
        let hi = s.5 in
        (count_below (seg_at f j) s.0, counted s.0 s.1 s.2, rw q.is (omega arith), rw q.is (omega arith), rw q.is (omega arith))

    pub safe_records : SafeRecords f j w table many
    safe_records = record {
      in_window = in_window;
      apart = apart_at;
      covered = covered;
      bytes_in = λ k lt. let q = neat_at k lt in (q.front, q.back, q.fits.in_file);
      never_both = never;
      entry = entry_in;
    }

    -- ---- the memory

    module _ (m : List ℕ) (hm : length m ≡ w.len) where
      here : Pieces w.start (length m) (length f) table many
      here = rw hm pieces

      loaded_at : (k a : ℕ) → On f j k a → get_or (carried_below w.start f table many m) (a - low j.kind w) 0 ≡ byte_of f (seg_at f j k) a
      unfolding record_of
      loaded_at k a o =
          let q = by_index k o.below o.is_real in
          let c = count_below (seg_at f j) k in
          let i = a - low j.kind w in
          let e = q.edges in
          let u = o.from in
          let v = o.to in
          let lo : (record_at table c).page ≤ w.start + i = rw q.is (omega arith) in
          let hi : w.start + i < (record_at table c).page + (record_at table c).len = rw q.is (omega arith) in
          on_piece w.start f table many m here c i (counted k o.below o.is_real) lo hi
          ∙ ap (λ (r : Record). piece_byte f r (w.start + i)) q.is
          ∙ record_byte (length f) (low j.kind w) w (seg_at f j k) q.place f a (omega arith)

      kept_at : (i : ℕ) → ((k : ℕ) → On f j k (low j.kind w + i) → ⊥) → get_or (carried_below w.start f table many m) i 0 ≡ get_or m i 0
      unfolding record_of
      kept_at i free =
          off_pieces w.start f table many m here i
          (λ k lt a b.
          let q = (known k lt).1 in
          let e = q.edges in
          let u = rw q.is at a in
          let v = rw q.is at b in
          free (known k lt).0 (record { below = q.below; is_real = q.is_real; from = omega arith; to = omega arith }))

      pub all_loaded : Loaded f j w m (carried_below w.start f table many m)
      all_loaded = record { same_length = all_length w.start f table many m here; loaded = loaded_at; kept = kept_at }
