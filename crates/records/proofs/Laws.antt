-- The laws of records in bytes: their lengths, how a table grows, and that a record that is written reads back.
-- Assumes nothing.
use Prim.Native.Nat.{ℕ, ◌+◌, ◌*◌, ◌^◌, ◌≤◌, ◌<◌}
use native.Mathlib.Omega.{arith}
use mathlib.Core.Path.{◌≡◌, refl, sym, ap, ap₂, ◌∙◌}
use mathlib.Core.List.{List, [], ◌∷◌, ◌++◌, append_assoc, append-nil}
use lib.ListN.{length, take, drop, length-append}
use lib.Seq.{sets, sets-eq, take_at, drop_at, drop-append-add}
use Rattle.endian.specs.Number.{number_at, bytes_of}
use Rattle.endian.specs.declared.Order.TheVariants.{Little}
use Rattle.endian.proofs.Written.{read_back, sets_append}
use Rattle.endian.proofs.Written as written
use Rattle.memory.specs.Run.{put}
use Rattle.memory.proofs.Put.{put_next}
use Rattle.records.specs.Record.{record_at, record_bytes, table_bytes, three_bytes, Small}
use Rattle.records.specs.declared.Record.{Record}

pub length_three : (a b c : ℕ) → length (three_bytes a b c) ≡ 24
length_three a b c = rw (length-append, length-append, written.length_bytes, written.length_bytes, written.length_bytes)

pub length_record : (r : Record) → length (record_bytes r) ≡ 48
unfolding record_bytes
length_record r = rw (length-append, length_three, length_three)

pub length_table : (rs : List Record) → length (table_bytes rs) ≡ 48 * length rs
unfolding table_bytes
length_table [] = refl
length_table (r ∷ rs) = length-append (record_bytes r) (table_bytes rs) ∙ omega (arith, length_record r, length_table rs)

-- three numbers, one after the other
pub three_puts : (s : List ℕ) (o a b c : ℕ)
    → sets (sets (sets s o (bytes_of Little 8 a)) (o + 8) (bytes_of Little 8 b)) (o + 16) (bytes_of Little 8 c) ≡ sets s o (three_bytes a b c)
three_puts s o a b c =
    let e : o + 8 + 8 ≡ o + 16 = omega arith in
    sym (rw (sets_append, sets_append, written.length_bytes, written.length_bytes, e))

-- a run of stores is `put`
sets_put : (v s : List ℕ) (o : ℕ) → o + length v ≤ length s → sets s o v ≡ put o v s
sets_put v s o h = sets-eq v s o h ∙ append_assoc (take o s) v (drop (o + length v) s)

-- the six numbers of a record
pub six_puts : (s : List ℕ) (o : ℕ) (r : Record) → o + 48 ≤ length s
    → sets (sets (sets (sets (sets (sets s o (bytes_of Little 8 r.page)) (o + 8) (bytes_of Little 8 r.len)) (o + 16) (bytes_of Little 8 r.prot)) (o + 24) (bytes_of Little 8 r.at)) (o + 32) (bytes_of Little 8 r.count)) (o + 40) (bytes_of Little 8 r.from)
    ≡ put o (record_bytes r) s
unfolding record_bytes
six_puts s o r h =
    let a = three_bytes r.page r.len r.prot in
    let b = three_bytes r.at r.count r.from in
    let n : length (a ++ b) ≡ 48 = length-append a b ∙ omega (arith, length_three r.page r.len r.prot, length_three r.at r.count r.from) in
    let e : o + 24 + 8 ≡ o + 32 = omega arith in
    let e' : o + 24 + 16 ≡ o + 40 = omega arith in
    rw (three_puts s o r.page r.len r.prot, ← e, ← e', three_puts (sets s o a) (o + 24) r.at r.count r.from)
    (ap (λ (k : ℕ). sets (sets s o a) (o + k) b) (sym (length_three r.page r.len r.prot))
    ∙ sym (sets_append s o a b)
    ∙ sets_put (a ++ b) s o (omega arith))

-- a table with one record more
pub table_snoc : (rs : List Record) (r : Record) → table_bytes (rs ++ (r ∷ [])) ≡ table_bytes rs ++ record_bytes r
unfolding table_bytes
table_snoc [] r = append-nil (record_bytes r)
table_snoc (x ∷ rs) r = ap (λ (z : List ℕ). record_bytes x ++ z) (table_snoc rs r) ∙ sym (append_assoc (record_bytes x) (table_bytes rs) (record_bytes r))

pub table_turn : (rs : List Record) (r : Record) (at : ℕ) (t : List ℕ) → at ≡ 48 * length rs
    → put at (record_bytes r) (table_bytes rs ++ drop at t) ≡ table_bytes (rs ++ (r ∷ [])) ++ drop (at + 48) t
table_turn rs r at t h =
    put_next at (table_bytes rs) t (record_bytes r) (length_table rs ∙ sym h)
    ∙ ap₂ (λ (x : List ℕ) (n : ℕ). x ++ drop (at + n) t) (sym (table_snoc rs r)) (length_record r)

-- a number among other bytes
pub number_in : (w n o : ℕ) (a x : List ℕ) → length a ≡ o → n < 256 ^ w → number_at Little w (a ++ (bytes_of Little w n ++ x)) o ≡ n
number_in w n o a x h l =
    let v = bytes_of Little w n in
    let s = a ++ (v ++ x) in
    let lv : length v ≡ w = written.length_bytes Little w n in
    let ls : length s ≡ o + (w + length x) = length-append a (v ++ x) ∙ ap₂ (λ (p q : ℕ). p + q) h (length-append v x ∙ ap (λ (q : ℕ). q + length x) lv) in
    let same : sets s o v ≡ s =
    sets_put v s o (omega arith)
    ∙ ap₂ (λ (p q : List ℕ). p ++ (v ++ q)) (take_at a (v ++ x) o h) (ap (λ (k : ℕ). drop (k + length v) s) (sym h) ∙ drop-append-add a (v ++ x) (length v) ∙ drop_at v x (length v) refl) in
    ap (λ (z : List ℕ). number_at Little w z o) (sym same) ∙ read_back Little w n s o l (omega arith)

-- a record that is written reads back
module _ (r : Record) (a x : List ℕ) (k : ℕ) (ha : length a ≡ 48 * k) (s : Small r) where
  b8 : ℕ → List ℕ
  b8 n = bytes_of Little 8 n

  -- the j-th of its numbers, with the bytes d in front of it
  part : (n j : ℕ) (d y : List ℕ) → length d ≡ j → n < 2 ^ 64 → number_at Little 8 (a ++ (d ++ (b8 n ++ y))) (48 * k + j) ≡ n
  unfolding b8
  part n j d y hd hn = rw (← append_assoc a d) (number_in 8 n (48 * k + j) (a ++ d) y (length-append a d ∙ ap₂ (λ (p q : ℕ). p + q) ha hd) hn)

  two : (m n : ℕ) → length (b8 m ++ b8 n) ≡ 16
  unfolding b8
  two m n = rw (length-append, written.length_bytes, written.length_bytes)

  pub decoded : record_at (a ++ (record_bytes r ++ x)) k ≡ r
  unfolding record_at record_bytes b8
  decoded =
      let p1 = b8 r.page in
      let p2 = b8 r.len in
      let p3 = b8 r.prot in
      let p4 = b8 r.at in
      let p5 = b8 r.count in
      let p6 = b8 r.from in
      let t = a ++ (record_bytes r ++ x) in
      let e0 : 48 * k ≡ 48 * k + 0 = omega arith in
      let e1 : number_at Little 8 t (48 * k) ≡ r.page = ap (number_at Little 8 t) e0 ∙ simp append_assoc (part r.page 0 [] (p2 ++ (p3 ++ (p4 ++ (p5 ++ (p6 ++ x))))) refl s.page) in
      let e2 : number_at Little 8 t (48 * k + 8) ≡ r.len = simp append_assoc (part r.len 8 p1 (p3 ++ (p4 ++ (p5 ++ (p6 ++ x)))) (written.length_bytes Little 8 r.page) s.len) in
      let e3 : number_at Little 8 t (48 * k + 16) ≡ r.prot = simp append_assoc (simp append_assoc at (part r.prot 16 (p1 ++ p2) (p4 ++ (p5 ++ (p6 ++ x))) (two r.page r.len) s.prot)) in
      let h = length_three r.page r.len r.prot in
      let e4 : number_at Little 8 t (48 * k + 24) ≡ r.at = simp append_assoc (simp append_assoc at (part r.at 24 (p1 ++ (p2 ++ p3)) (p5 ++ (p6 ++ x)) h s.at)) in
      let e5 : number_at Little 8 t (48 * k + 32) ≡ r.count = simp append_assoc (simp append_assoc at (part r.count 32 ((p1 ++ (p2 ++ p3)) ++ p4) (p6 ++ x) (length-append (p1 ++ (p2 ++ p3)) p4 ∙ omega (arith, h, written.length_bytes Little 8 r.at)) s.count)) in
      let e6 : number_at Little 8 t (48 * k + 40) ≡ r.from = simp append_assoc (simp append_assoc at (part r.from 40 ((p1 ++ (p2 ++ p3)) ++ (p4 ++ p5)) x (length-append (p1 ++ (p2 ++ p3)) (p4 ++ p5) ∙ omega (arith, h, two r.at r.count)) s.from)) in
      λ i. record { page = e1 i; len = e2 i; prot = e3 i; at = e4 i; count = e5 i; from = e6 i }
