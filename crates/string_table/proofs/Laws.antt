-- The laws of strings: where a string ends, what the last zero byte tells, and when a string is a name.
-- Assumes nothing.
use Prim.Native.Nat.{ℕ, zero, suc, ◌+◌, ◌-◌, ◌<◌, ◌≤◌}
use native.Mathlib.Nat.{lt_of_not-le}
use native.Mathlib.Omega.{arith}
use mathlib.Core.Path.{◌≡◌, refl, sym, ap, ◌∙◌}
use mathlib.Core.Bool.{Bool, true, false, cond, ◌&&◌, not, and_assoc, and-true}
use mathlib.Core.List.{List, [], ◌∷◌, ◌++◌}
use lib.ListN.{length, get_or, take, drop, length-take, length-drop}
use lib.Seq.{get_or-take, get_or-drop}
use lib.Dec.{eqb, ltb}
use borrow.Author.Tests.{eq-eqb, ne_eqb, eqb-true, eqb-false, le-leb, lt-leb, le-ltb, ltb-false}
use Rattle.endian.specs.declared.fault.Fault.TheVariants.{BadOffset, NoZeroByte}
use Rattle.parse.specs.First.{first_from}
use Rattle.std.specs.Prelude.{Option, Some, None, Ok, Err}
use Rattle.parse.specs.declared.Range.{Range}
use Rattle.parse.proofs.Laws.{first_bounds}
use Rattle.string_table.specs.Text.{is_zero, end_of, last_below, last_zero, ends_of, behind, text_fault, fault_with, no_end, none_from, text_at, up_to, text_range, same_bytes, same_run, is_clean}
use Rattle.string_table.proofs.Search.{first_nothing, first_at, first_is, last_nothing, last_at}

-- the end of a string lies in the table, at or behind its start
pub end_bounds : (s : List ℕ) (o e : ℕ) → end_of s o ≡ Some e → (o ≤ e) × (e < length s)
unfolding end_of
end_bounds s o e h = let b = first_bounds (is_zero s) (length s - o) o e h in omega arith

-- the last zero byte lies in the table
pub last_inside : (s : List ℕ) (l : ℕ) → last_zero s ≡ Some l → l < length s
unfolding last_zero
last_inside s l h = (last_at (is_zero s) (length s) l h).0

-- no zero byte is behind it
not_behind : (s : List ℕ) (l e : ℕ) → last_zero s ≡ Some l → e < length s → is_zero s e ≡ true → e ≤ l
unfolding last_zero
not_behind s l e h i z =
    let w = lt_of_not-le {n = suc l} {m = e} (λ g. let k : true ≡ false = sym z ∙ (last_at (is_zero s) (length s) l h).2 e g i in cc) in
    omega arith

-- where the last zero byte is known, a string stands at each offset up to it, and at no other
pub known_end : (s : List ℕ) (o : ℕ) → o ≤ length s → none_from o (last_zero s) ≡ no_end (end_of s o)
unfolding last_zero end_of
known_end s o h = pick (last_zero s) (end_of s o) refl refl
  where
    pick : (l f : Option ℕ) → last_below (is_zero s) (length s) ≡ l → first_from (is_zero s) (length s - o) o ≡ f → none_from o l ≡ no_end f
    pick (Some l) (Some e) a b =
        let q = first_bounds (is_zero s) (length s - o) o e b in
        let z = (first_at (is_zero s) (length s - o) o e b).0 in
        let w = lt_of_not-le {n = suc l} {m = e} (λ g. let k : true ≡ false = sym z ∙ (last_at (is_zero s) (length s) l a).2 e g (omega arith) in cc) in
        rw (le-leb o l (omega arith))
    pick (Some l) None a b =
        let r = last_at (is_zero s) (length s) l a in
        let w = lt_of_not-le {n = o} {m = l} (λ g. let k : true ≡ false = sym r.1 ∙ first_nothing (is_zero s) (length s - o) o b l g (omega arith) in cc) in
        rw (lt-leb o l w)
    pick None (Some e) a b =
        let q = first_bounds (is_zero s) (length s - o) o e b in
        let k : true ≡ false = sym (first_at (is_zero s) (length s - o) o e b).0 ∙ last_nothing (is_zero s) (length s) a e (omega arith) in
        cc
    pick None None a b = refl

-- so the last zero byte tells the fault of every offset
pub fault_known : (s : List ℕ) (o : ℕ) → fault_with (last_zero s) (length s) o ≡ text_fault s o
unfolding fault_with text_fault
fault_known s o = pick (ltb (length s) o) refl
  where
    pick : (t : Bool) → ltb (length s) o ≡ t
        → cond (eqb (length s) 0) (Err BadOffset) (cond t (Err BadOffset) (none_from o (last_zero s)))
        ≡ cond (eqb (length s) 0) (Err BadOffset) (cond t (Err BadOffset) (no_end (end_of s o)))
    pick true q = refl
    pick false q = rw (known_end s o (ltb-false _ _ q))

same_self : (s : List ℕ) → same_bytes s s ≡ true
unfolding same_bytes
same_self [] = refl
same_self (a ∷ s) = rw (eq-eqb a a refl, same_self s)

pub same_equal : (s t : List ℕ) → s ≡ t → same_bytes s t ≡ true
same_equal s t e = rw (← e) (same_self s)

pub same_known : (s t : List ℕ) → same_bytes s t ≡ true → s ≡ t
unfolding same_bytes
same_known [] [] h = refl
same_known [] (b ∷ t) h = cc
same_known (a ∷ s) [] h = cc
same_known (a ∷ s) (b ∷ t) h = pick (same_known s t) (eqb a b) refl h
  where
    pick : (same_bytes s t ≡ true → s ≡ t) → (x : Bool) → eqb a b ≡ x → (x && same_bytes s t) ≡ true → (a ∷ s) ≡ (b ∷ t)
    pick f true q r = let p = eqb-true a b q in let k = f r in cc
    pick f false q r = cc

pub same_other : (s t : List ℕ) → (s ≡ t → ⊥) → same_bytes s t ≡ false
same_other s t h = pick (same_bytes s t) refl
  where
    pick : (x : Bool) → same_bytes s t ≡ x → x ≡ false
    pick true q = absurd (h (same_known s t q))
    pick false q = refl

-- the bytes of a part of the table, and of one that is the name
part_byte : (s : List ℕ) (o n j : ℕ) → j < n → get_or (take n (drop o s)) j 0 ≡ get_or s (o + j) 0
part_byte s o n j h = rw (get_or-take, get_or-drop)

pub run_byte : (s : List ℕ) (o : ℕ) (name : List ℕ) → take (length name) (drop o s) ≡ name → (j : ℕ) → j < length name → get_or s (o + j) 0 ≡ get_or name j 0
run_byte s o name e j h = sym (part_byte s o (length name) j h) ∙ ap (λ (t : List ℕ). get_or t j 0) e

-- a list with one byte more is clean where it was and the byte is not zero
pub clean_more : (s : List ℕ) (b : ℕ) → is_clean (s ++ (b ∷ [])) ≡ (is_clean s && not (eqb b 0))
unfolding is_clean
clean_more [] b = and-true (not (eqb b 0))
clean_more (a ∷ s) b = rw (clean_more s b) (sym (and_assoc (not (eqb a 0)) (is_clean s) (not (eqb b 0))))

-- no byte of a clean list is zero, and a list is clean where none is
pub clean_byte : (s : List ℕ) → is_clean s ≡ true → (j : ℕ) → j < length s → get_or s j 0 ≡ 0 → ⊥
unfolding is_clean
clean_byte [] h j g z = omega arith
clean_byte (b ∷ s) h j g z = pick (clean_byte s) (eqb b 0) refl h j g z
  where
    pick : (is_clean s ≡ true → (j : ℕ) → j < length s → get_or s j 0 ≡ 0 → ⊥) → (x : Bool) → eqb b 0 ≡ x → (not x && is_clean s) ≡ true
        → (j : ℕ) → j < suc (length s) → get_or (b ∷ s) j 0 ≡ 0 → ⊥
    pick f true q r j g z = cc
    pick f false q r zero g z = eqb-false _ _ q z
    pick f false q r (suc j) g z = f r j (omega arith) z

pub all_clean : (s : List ℕ) → ((j : ℕ) → j < length s → get_or s j 0 ≡ 0 → ⊥) → is_clean s ≡ true
unfolding is_clean
all_clean [] h = refl
all_clean (b ∷ s) h = rw (ne_eqb b 0 (h 0 (omega arith)), all_clean s (λ j g. h (suc j) (omega arith)))

-- so what stands behind the first k bytes of a clean list is clean
pub behind_clean : (s : List ℕ) (k : ℕ) → is_clean s ≡ true → is_clean (drop k s) ≡ true
behind_clean s k h =
    all_clean _ (λ j g z. let l : length (drop k s) ≡ length s - k = rw (length-drop) in clean_byte s h (k + j) (omega arith) (sym (get_or-drop k s j 0) ∙ z))

-- a string of a table is clean, and a name that is not clean is none
text_clean : (s : List ℕ) (o : ℕ) → is_clean (text_at s o) ≡ true
unfolding text_at end_of
text_clean s o = pick (end_of s o) refl
  where
    pick : (f : Option ℕ) → first_from (is_zero s) (length s - o) o ≡ f → is_clean (up_to s o f) ≡ true
    pick (Some e) q =
        let z = first_at (is_zero s) (length s - o) o e q in
        all_clean (take (e - o) (drop o s)) (λ j g.
        let k : length (take (e - o) (drop o s)) ≤ e - o = simp (length-take) (omega arith) in
        let i : j < e - o = omega arith in
        λ y. eqb-false _ _ (z.1 (o + j) (omega arith) (omega arith)) (sym (part_byte s o (e - o) j i) ∙ y))
    pick None q = all_clean [] (λ j g. absurd (omega arith))

pub unclean_other : (s : List ℕ) (o : ℕ) (name : List ℕ) → is_clean name ≡ false → same_bytes (text_at s o) name ≡ false
unclean_other s o name h = same_other _ _ (λ e. let k : true ≡ false = sym (text_clean s o) ∙ ap is_clean e ∙ h in cc)

-- the string at o, of a table whose byte n behind o is the first zero byte from there on
ends_there : (s : List ℕ) (o n : ℕ) → o + n < length s → get_or s (o + n) 0 ≡ 0 → ((j : ℕ) → j < n → get_or s (o + j) 0 ≡ 0 → ⊥) → end_of s o ≡ Some (o + n)
unfolding end_of
ends_there s o n b z h = first_is (is_zero s) (length s - o) o (o + n) (omega arith) (omega arith) (eq-eqb _ _ z)
    (λ j c d. let e : o + (j - o) ≡ j = omega arith in ne_eqb _ _ (rw e at (h (j - o) (omega arith))))

-- what a comparison from the end finds where the string at o is the name, in a table whose last zero byte stands at l
pub record Agrees (s : List ℕ) (l o : ℕ) (name : List ℕ) : Type 0 where
  pub room : o + length name ≤ l
  pub ends : get_or s (o + length name) 0 ≡ 0
  pub bytes : take (length name) (drop o s) ≡ name

module _ (s : List ℕ) (l o : ℕ) (name : List ℕ) (last : last_zero s ≡ Some l) where
  same_agreed : is_clean name ≡ true → Agrees s l o name → same_bytes (text_at s o) name ≡ true
  unfolding text_at
  same_agreed c a =
      let b = last_inside s l last in
      let e = ends_there s o (length name) (omega (arith, a.room)) a.ends (λ j g z. clean_byte name c j g (sym (run_byte s o name a.bytes j g) ∙ z)) in
      let w : o + length name - o ≡ length name = omega arith in
      same_equal _ _ (rw (e, w) a.bytes)

  pub agrees_same : o ≤ l → text_at s o ≡ name → Agrees s l o name
  unfolding text_at end_of last_zero
  agrees_same b t = pick (end_of s o) refl t
    where
      pick : (f : Option ℕ) → first_from (is_zero s) (length s - o) o ≡ f → up_to s o f ≡ name → Agrees s l o name
      pick (Some e) q r =
          let d = first_bounds (is_zero s) (length s - o) o e q in
          let z = (first_at (is_zero s) (length s - o) o e q).0 in
          let n : length name ≡ e - o = ap length (sym r) ∙ simp (length-take, length-drop) (omega arith) in
          let m : o + length name ≡ e = omega arith in
          let w = not_behind s l e last (omega arith) z in
          record { room = omega arith; ends = rw m (eqb-true _ _ z); bytes = rw n r }
      pick None q r =
          let k : true ≡ false = sym (last_at (is_zero s) (length s) l last).1 ∙ first_nothing (is_zero s) (length s - o) o q l b (omega (arith, (last_at (is_zero s) (length s) l last).0)) in
          cc

  -- a string that is not empty stands before the last zero byte
  pub stands : text_at s o ≡ name → 0 < length name → o ≤ l
  unfolding text_at end_of last_zero
  stands t n = pick (end_of s o) refl t
    where
      pick : (f : Option ℕ) → first_from (is_zero s) (length s - o) o ≡ f → up_to s o f ≡ name → o ≤ l
      pick (Some e) q r =
          let d = first_bounds (is_zero s) (length s - o) o e q in
          let z = (first_at (is_zero s) (length s - o) o e q).0 in
          let w = not_behind s l e last (omega arith) z in
          omega arith
      pick None q r = let k : length name ≡ 0 = ap length (sym r) in absurd (omega arith)

  pub same_refused : o ≤ l → (Agrees s l o name → ⊥) → same_bytes (text_at s o) name ≡ false
  same_refused b n = same_other _ _ (λ e. n (agrees_same b e))

  -- where there is room, and the zero byte, the bytes decide
  pub same_bytes_lem : o ≤ l → is_clean name ≡ true → o + length name ≤ l → get_or s (o + length name) 0 ≡ 0 → same_run s o name ≡ same_bytes (text_at s o) name
  unfolding same_run
  same_bytes_lem b c r e = pick (same_run s o name) refl
    where
      pick : (x : Bool) → same_bytes (take (length name) (drop o s)) name ≡ x → x ≡ same_bytes (text_at s o) name
      pick true q = sym (same_agreed c (record { room = r; ends = e; bytes = same_known _ _ q }))
      pick false q = sym (same_refused b (λ g. let k : true ≡ false = sym (same_equal _ _ g.bytes) ∙ q in cc))

-- what is known of a range that was told: it lies in the table, and holds the string's bytes
pub record Told (s : List ℕ) (o : ℕ) (r : Range) : Type 0 where
  pub ordered : r.from ≤ r.to
  pub inside : r.to ≤ length s
  pub bytes : take (r.to - r.from) (drop r.from s) ≡ text_at s o

pub text_told : (s : List ℕ) (o : ℕ) → text_fault s o ≡ Ok tt → Told s o (text_range s o)
unfolding text_fault text_range text_at
text_told s o h = pick (eqb (length s) 0) (ltb (length s) o) (end_of s o) refl refl refl h
  where
    pick : (a b : Bool) (f : Option ℕ) → eqb (length s) 0 ≡ a → ltb (length s) o ≡ b → end_of s o ≡ f
        → cond a (Err BadOffset) (cond b (Err BadOffset) (no_end f)) ≡ Ok tt → Told s o (text_range s o)
    pick true b f p q e g = cc
    pick false true f p q e g = cc
    pick false false None p q e g = cc
    pick false false (Some e) p q w g =
        let d = end_bounds s o e w in
        rw w (record { ordered = d.0; inside = omega arith; bytes = rw w })

-- the offsets at which strings stand are those below the place behind the last zero byte
ended : (s : List ℕ) (o : ℕ) → o < ends_of s → last_zero s ≡ Some (ends_of s - 1)
ended s o h = pick (last_zero s) refl h
  where
    pick : (l : Option ℕ) → last_zero s ≡ l → o < behind l → last_zero s ≡ Some (ends_of s - 1)
    pick None q r = absurd (omega arith)
    pick (Some l) q r = let k : l + 1 - 1 ≡ l = omega arith in rw (q, k)

pub stands_below : (s : List ℕ) (o : ℕ) → o < ends_of s → text_fault s o ≡ Ok tt
unfolding fault_with
stands_below s o h =
    let z = ended s o h in
    let i = last_inside s (ends_of s - 1) z in
    let f : fault_with (Some (ends_of s - 1)) (length s) o ≡ text_fault s o = rw z at (fault_known s o) in
    sym f ∙ rw (ne_eqb (length s) 0 (λ e. omega arith), le-ltb (length s) o (omega arith), le-leb o (ends_of s - 1) (omega arith))

-- and from there on none does: the offset is beyond the table, or no zero byte comes
none_with : (l : Option ℕ) (len o : ℕ) → behind l ≤ o → fault_with l len o ≡ cond (eqb len 0) (Err BadOffset) (cond (ltb len o) (Err BadOffset) (Err NoZeroByte))
unfolding fault_with
none_with None len o h = refl
none_with (Some l) len o h = rw (lt-leb o l (omega arith))

pub none_behind : (s : List ℕ) (o : ℕ) → ends_of s ≤ o
    → text_fault s o ≡ cond (eqb (length s) 0) (Err BadOffset) (cond (ltb (length s) o) (Err BadOffset) (Err NoZeroByte))
none_behind s o h = sym (fault_known s o) ∙ none_with (last_zero s) (length s) o h

pub ends_inside : (s : List ℕ) → ends_of s ≤ length s
ends_inside s = pick (last_zero s) refl
  where
    pick : (l : Option ℕ) → last_zero s ≡ l → behind l ≤ length s
    pick None q = omega arith
    pick (Some l) q = omega (arith, last_inside s l q)

-- the string at an offset at which one stands
module _ (s : List ℕ) (o : ℕ) (there : text_fault s o ≡ Ok tt) where
  pub there_below : o < ends_of s
  there_below = lt_of_not-le (λ h. pick (eqb (length s) 0) (ltb (length s) o) (sym (none_behind s o h) ∙ there))
    where
      pick : (a b : Bool) → cond a (Err BadOffset) (cond b (Err BadOffset) (Err NoZeroByte)) ≡ Ok (tt {0}) → ⊥
      pick true b q = cc
      pick false true q = cc
      pick false false q = cc

  pub there_last : last_zero s ≡ Some (ends_of s - 1)
  there_last = ended s o there_below

  -- is not the name where there is no room for it, or no zero byte behind it
  pub at_outside : (name : List ℕ) → ends_of s ≤ o + length name → same_bytes (text_at s o) name ≡ false
  at_outside name h =
      let b = there_below in
      same_refused s (ends_of s - 1) o name there_last (omega arith) (λ g. omega (arith, g.room))

  pub at_unended : (name : List ℕ) → (get_or s (o + length name) 0 ≡ 0 → ⊥) → same_bytes (text_at s o) name ≡ false
  at_unended name h = let b = there_below in same_refused s (ends_of s - 1) o name there_last (omega arith) (λ g. h g.ends)

  -- and else the bytes decide
  pub at_run : (name : List ℕ) → is_clean name ≡ true → o + length name < ends_of s → get_or s (o + length name) 0 ≡ 0
      → same_bytes (text_at s o) name ≡ same_run s o name
  at_run name c r e = let b = there_below in sym (same_bytes_lem s (ends_of s - 1) o name there_last (omega arith) c (omega arith) e)
