-- The laws of what is noted of strings: at first nothing is; a mark tells of one offset only; what is noted is true, stays, and is
-- noted once.
-- Assumes nothing.
use Prim.Native.Nat.{ℕ, ◌+◌, ◌-◌, ◌*◌, ◌/◌, ◌<◌, ◌≤◌}
use native.Mathlib.Nat.{eq-or-lt_of_le, div-lt_iff_lt-mul, div-mul-le_self, lt-div-mul-add, mul_comm, add_assoc}
use native.Mathlib.Omega.{arith}
use mathlib.Core.Path.{◌≡◌, refl, sym, ◌∙◌}
use mathlib.Core.Bool.{Bool, true, false, cond, ◌&&◌, not}
use mathlib.Core.List.{List}
use mathlib.Core.Logic.{⊎_elim}
use lib.ListN.{length, get_or, take, drop, replicate, length-take, length-drop}
use lib.Seq.{get_or-take, get_or-drop, take_all}
use lib.Dec.{eqb, leb, ltb}
use borrow.Author.Tests.{eqb-true, eqb-false, leb-true, leb-false, ltb-true, lt-ltb}
use Rattle.marks.specs.Marks.{marked, marking}
use Rattle.marks.proofs.Laws.{fresh, marking_length, marking_told, marking_keeps, marking_marks}
use Rattle.std.specs.Prelude.{Some, Ok}
use Rattle.string_table.specs.Text.{last_zero, ends_of, text_fault, text_at, same_bytes, same_run, is_clean}
use Rattle.string_table.specs.Noted.{span_of, front_of, ending, Noted, noting, Notes, noted}
use Rattle.string_table.proofs.Laws.{ends_inside, stands_below, there_below, there_last, at_outside, Agrees, agrees_same, stands, same_bytes_lem, same_refused, same_known, clean_byte, behind_clean, run_byte, last_inside}
use Rattle.string_table.proofs.Runs.{run_matched, run_other}

clash : (b : Bool) → b ≡ true → b ≡ false → ⊥
clash b p q = let k : true ≡ false = sym p ∙ q in cc

pub none_noted : (t name : List ℕ) → Noted t name (span_of (length t)) (replicate 1024 0)
none_noted t name =
    record {
      some = omega arith;
      room = omega arith;
      other = λ o m e. absurd (clash _ m (fresh 1024 (o / span_of (length t))));
    }

-- there is a mark for each offset of the table
pub marks_room : (t name : List ℕ) (span : ℕ) (marks : List ℕ) → Noted t name span marks → (o : ℕ) → o ≤ length t → o / span < 8 * length marks
marks_room t name span marks n o h = (div-lt_iff_lt-mul n.some).1 (omega (arith, n.room, mul_comm span (8 * length marks)))

module _ (t name : List ℕ) (span o : ℕ) (marks : List ℕ) where
  -- what holds of the marks, and of those with one more where one is set, holds of what is noted
  noting_cases : (P : List ℕ → Type 0) → P marks
      → (span < length name → ending t name span o ≡ true → marked marks (o / span) ≡ false → same_bytes (text_at t o) name ≡ false → P (marking marks (o / span)))
      → P (noting t name span o marks)
  unfolding noting
  noting_cases P p f = pick (ltb span (length name)) (ending t name span o) (marked marks (o / span)) (same_bytes (text_at t o) name) refl refl refl refl
    where
      pick : (a b c d : Bool) → ltb span (length name) ≡ a → ending t name span o ≡ b → marked marks (o / span) ≡ c → same_bytes (text_at t o) name ≡ d
          → P (cond (a && b && not c && not d) (marking marks (o / span)) marks)
      pick true true false false w x y z = f (ltb-true _ _ w) x y z
      pick true true false true w x y z = p
      pick true true true d w x y z = p
      pick true false c d w x y z = p
      pick false b c d w x y z = p

  -- nothing is noted of a short name, where the end of the name does not stand, twice, or where the string is the name
  pub noting_short : length name ≤ span → noting t name span o marks ≡ marks
  noting_short h = noting_cases (λ m. m ≡ marks) refl (λ g e k s. absurd (omega arith))

  pub noting_unended : ending t name span o ≡ false → noting t name span o marks ≡ marks
  noting_unended h = noting_cases (λ m. m ≡ marks) refl (λ g e k s. absurd (clash _ e h))

  pub noting_marked : marked marks (o / span) ≡ true → noting t name span o marks ≡ marks
  noting_marked h = noting_cases (λ m. m ≡ marks) refl (λ g e k s. absurd (clash _ h k))

  pub noting_same : same_bytes (text_at t o) name ≡ true → noting t name span o marks ≡ marks
  noting_same h = noting_cases (λ m. m ≡ marks) refl (λ g e k s. absurd (clash _ h s))

  pub noting_new : span < length name → ending t name span o ≡ true → marked marks (o / span) ≡ false → same_bytes (text_at t o) name ≡ false
      → noting t name span o marks ≡ marking marks (o / span)
  unfolding noting
  noting_new h e m s = rw (lt-ltb span (length name) h, e, m, s)

-- the part of a list from k to its end is the rest
pub rest : (k : ℕ) (s : List ℕ) → take (length s - k) (drop k s) ≡ drop k s
rest k s = take_all (length s - k) (drop k s) (rw (length-drop) (omega arith))

module _ (t : List ℕ) (l : ℕ) (name : List ℕ) (span : ℕ) (last : last_zero t ≡ Some l) (clean : is_clean name ≡ true) (some : 0 < span) (long : span < length name) where
  abbrev tail : List ℕ
  tail = drop (front_of span name) name

  tail_length : length tail ≡ span
  tail_length = rw (length-drop) (omega arith)

  pub tail_clean : is_clean tail ≡ true
  tail_clean = behind_clean name (front_of span name) clean

  ended : (o : ℕ) → ending t name span o ≡ true → Agrees t l (o + front_of span name) tail
  ended o e =
      let s = same_known _ _ e in
      let k = tail_length in
      agrees_same t l _ tail last (stands t l _ tail last s (omega arith)) s

  -- two offsets at which the end of the name stands are not within one span
  apart : (a b : ℕ) → ending t name span a ≡ true → ending t name span b ≡ true → a < b → b < a + span → ⊥
  apart a b p q h g =
      let x = ended a p in
      let y = ended b q in
      let k = tail_length in
      let j : ℕ = a + span - b in
      let e : b + front_of span name + j ≡ a + front_of span name + length tail = omega arith in
      let z = rw e at (run_byte t (b + front_of span name) tail y.bytes j (omega arith)) in
      clean_byte tail tail_clean j (omega arith) (sym z ∙ x.ends)

  spaced : (a b : ℕ) → ending t name span a ≡ true → ending t name span b ≡ true → a / span ≡ b / span → a ≡ b
  spaced a b p q h = pick (leb a b) refl
    where
      -- the later of two offsets with one mark is less than a span away
      near : (a b : ℕ) → a / span ≡ b / span → b < a + span
      near a b h =
          let x = div-mul-le_self a span in
          let y = rw (← h) at (lt-div-mul-add {a = b} some) in
          omega (arith, x, y)

      pick : (x : Bool) → leb a b ≡ x → a ≡ b
      pick true r = ⊎_elim (λ e. e) (λ g. absurd (apart a b p q g (near a b h))) (eq-or-lt_of_le (leb-true a b r))
      pick false r = absurd (apart b a q p (leb-false a b r) (near b a (sym h)))

  -- so a mark may be set where the string is found not to be the name
  pub noted_more : (marks : List ℕ) → Noted t name span marks → (o : ℕ) → o ≤ l → ending t name span o ≡ true → same_bytes (text_at t o) name ≡ false
      → Noted t name span (marking marks (o / span))
  noted_more marks n o h e s =
      record { some = n.some; room = rw (marking_length marks (o / span)) n.room; other = λ a m f. pick a m f (eqb (o / span) (a / span)) refl }
    where
      pick : (a : ℕ) → marked (marking marks (o / span)) (a / span) ≡ true → ending t name span a ≡ true → (x : Bool) → eqb (o / span) (a / span) ≡ x
          → same_bytes (text_at t a) name ≡ false
      pick a m f true r = rw (← (spaced o a e f (eqb-true _ _ r))) s
      pick a m f false r =
          let i = last_inside t l last in
          n.other a (marking_told marks (o / span) (a / span) (marks_room t name span marks n o (omega arith)) m (eqb-false _ _ r)) f

  -- where it stands there is room for the name
  ended_room : (o : ℕ) → ending t name span o ≡ true → o + length name ≤ l
  ended_room o e = let a = ended o e in let k = tail_length in omega (arith, a.room)

  pub no_room : (o : ℕ) → l < o + length name → ending t name span o ≡ false
  no_room o h = pick (ending t name span o) refl
    where
      pick : (x : Bool) → ending t name span o ≡ x → x ≡ false
      pick true e = absurd (omega (arith, ended_room o e))
      pick false e = refl

  -- where the end of the name stands, what is before it decides
  pub front_decides : (o : ℕ) → o + length name ≤ l → ending t name span o ≡ true → same_run t o (take (front_of span name) name) ≡ same_bytes (text_at t o) name
  unfolding same_run
  front_decides o h e =
      let a = ended o e in
      let k = tail_length in
      let i = last_inside t l last in
      let w : o + front_of span name + length tail ≡ o + length name = omega arith in
      pick (same_run t o front) refl ∙ same_bytes_lem t l o name last (omega arith) clean h (rw w at a.ends)
    where
      front : List ℕ
      front = take (front_of span name) name

      front_length : length front ≡ front_of span name
      front_length = rw (length-take) (omega arith)

      byte : take (length front) (drop o t) ≡ front → (j : ℕ) → j < length name → (x : Bool) → leb (front_of span name) j ≡ x → get_or t (o + j) 0 ≡ get_or name j 0
      byte b j q true x =
          let g : front_of span name ≤ j = leb-true _ _ x in
          let k = tail_length in
          let u : o + front_of span name + (j - front_of span name) ≡ o + j = omega arith in
          let v : front_of span name + (j - front_of span name) ≡ j = omega arith in
          rw (u, get_or-drop, v) at (run_byte t (o + front_of span name) tail (ended o e).bytes (j - front_of span name) (omega arith))
      byte b j q false x =
          let g : j < front_of span name = leb-false _ _ x in
          let k = front_length in
          rw (get_or-take) at (run_byte t o front b j (omega arith))

      pick : (x : Bool) → same_run t o front ≡ x → x ≡ same_run t o name
      pick true r =
          let i = last_inside t l last in
          sym (run_matched t o name (omega arith) (λ j p q. byte (same_known _ _ r) j q (leb (front_of span name) j) refl))
      pick false r =
          let i = last_inside t l last in
          let k = front_length in
          sym (run_other t o name (λ m.
          let w : same_run t o front ≡ true = run_matched t o front (omega arith) (λ j p q. let u : j < front_of span name = omega arith in rw (get_or-take) (m j (omega arith) (omega arith))) in
          clash _ w r))

  -- where it does not stand, the name does not
  pub no_ending : (o : ℕ) → o + length name ≤ l → ending t name span o ≡ false → same_bytes (text_at t o) name ≡ false
  no_ending o h e =
      let k = tail_length in
      let i = last_inside t l last in
      same_refused t l o name last (omega arith) (λ g.
      let w : o + length name ≡ o + front_of span name + length tail = omega arith in
      let m : same_run t (o + front_of span name) tail ≡ true = run_matched t (o + front_of span name) tail (omega arith) (λ j p q. byte g.bytes j (omega arith)) in
      clash _ m (same_bytes_lem t l (o + front_of span name) tail last (omega arith) tail_clean (omega arith) (rw w at g.ends) ∙ e))
    where
      byte : take (length name) (drop o t) ≡ name → (j : ℕ) → front_of span name + j < length name → get_or t (o + front_of span name + j) 0 ≡ get_or tail j 0
      byte b j q = rw (get_or-drop, add_assoc o (front_of span name) j) (run_byte t o name b (front_of span name + j) q)

-- what is noted stays true
pub noting_true : (t : List ℕ) (l : ℕ) (name : List ℕ) (span : ℕ) (marks : List ℕ) → last_zero t ≡ Some l → is_clean name ≡ true → Noted t name span marks
    → (o : ℕ) → o ≤ l → Noted t name span (noting t name span o marks)
noting_true t l name span marks last clean n o h =
    noting_cases t name span o marks (Noted t name span) n (λ g e k s. noted_more t l name span last clean n.some g marks n o h e s)

pub noted_true : (t : List ℕ) (o : ℕ) (name : List ℕ) (marks : List ℕ) → text_fault t o ≡ Ok tt → is_clean name ≡ true → Notes t name marks → Notes t name (noted t name o marks)
noted_true t o name marks there clean n =
    let b = there_below t o there in noting_true t (ends_of t - 1) name (span_of (length t)) marks (there_last t o there) clean n o (omega arith)

-- it stays marked, and a string that was compared in full is marked: so that is done once
pub noting_keeps : (t : List ℕ) (name : List ℕ) (span : ℕ) (marks : List ℕ) → Noted t name span marks → (o : ℕ) → o ≤ length t → (i : ℕ) → marked marks i ≡ true
    → marked (noting t name span o marks) i ≡ true
noting_keeps t name span marks n o h i m =
    noting_cases t name span o marks (λ x. marked x i ≡ true) m (λ g e k s. marking_keeps marks (o / span) i (marks_room t name span marks n o h) m)

pub noting_settles : (t : List ℕ) (name : List ℕ) (span : ℕ) (marks : List ℕ) → Noted t name span marks → (o : ℕ) → o ≤ length t
    → span < length name → ending t name span o ≡ true → same_bytes (text_at t o) name ≡ false → marked (noting t name span o marks) (o / span) ≡ true
noting_settles t name span marks n o h g e s = pick (marked marks (o / span)) refl
  where
    pick : (x : Bool) → marked marks (o / span) ≡ x → marked (noting t name span o marks) (o / span) ≡ true
    pick true m = noting_keeps t name span marks n o h (o / span) m
    pick false m = rw (noting_new t name span o marks g e m s) (marking_marks marks (o / span) (marks_room t name span marks n o h))

-- the steps of a comparison that notes, at an offset at which a string stands
module _ (t : List ℕ) (o : ℕ) (name : List ℕ) (marks : List ℕ) (there : text_fault t o ≡ Ok tt) (clean : is_clean name ≡ true) (n : Notes t name marks)
    (span : ℕ) (s : span ≡ span_of (length t)) where
  abbrev last : ℕ
  last = ends_of t - 1

  own : Noted t name span marks
  own = rw s n

  -- what was answered, and what is noted then
  abbrev pub Compared : Bool → List ℕ → Type 0
  Compared b m = (b ≡ same_bytes (text_at t o) name) × (m ≡ noted t name o marks)

  compared : (b : Bool) (m : List ℕ) → b ≡ same_bytes (text_at t o) name → noting t name span o marks ≡ m → Compared b m
  compared b m p q = (p, sym (rw s at q))

  pub mark_there : o / span < 8 * length marks
  mark_there = let b = there_below t o there in let e = ends_inside t in marks_room t name span marks own o (omega arith)

  pub short : length name ≤ span → (b : Bool) → b ≡ same_bytes (text_at t o) name → Compared b marks
  short h b p = compared b marks p (noting_short t name span o marks h)

  module _ (long : span < length name) where
    pub outside : ends_of t ≤ o + length name → Compared false marks
    outside h =
        let b = there_below t o there in
        compared false marks (sym (at_outside t o there name h))
        (noting_unended t name span o marks (no_room t last name span (there_last t o there) clean own.some long o (omega arith)))

    pub tail_there : o + length name < ends_of t → text_fault t (o + front_of span name) ≡ Ok tt
    tail_there h = stands_below t (o + front_of span name) (omega arith)

    pub unended : o + length name < ends_of t → ending t name span o ≡ false → Compared false marks
    unended h e =
        compared false marks (sym (no_ending t last name span (there_last t o there) clean own.some long o (omega arith) e))
        (noting_unended t name span o marks e)

    module _ (h : o + length name < ends_of t) (e : ending t name span o ≡ true) where
      pub front_same : same_run t o (take (front_of span name) name) ≡ same_bytes (text_at t o) name
      front_same = front_decides t last name span (there_last t o there) clean own.some long o (omega arith) e

      pub seen_before : marked marks (o / span) ≡ true → Compared false marks
      seen_before m = compared false marks (sym (own.other o m e)) (noting_marked t name span o marks m)

      pub seen_same : same_run t o (take (front_of span name) name) ≡ true → Compared true marks
      seen_same r = let k = sym r ∙ front_same in compared true marks k (noting_same t name span o marks (sym k))

      pub seen_new : marked marks (o / span) ≡ false → same_run t o (take (front_of span name) name) ≡ false
          → Compared false (marking marks (o / span))
      seen_new m r = let k = sym r ∙ front_same in compared false (marking marks (o / span)) k (noting_new t name span o marks long e m (sym k))
