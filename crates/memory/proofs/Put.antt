-- The laws of `put`: the bytes of a memory in which a run was put, its length, runs put behind or over each other.
-- Assumes nothing.
use Prim.Native.Nat.{ℕ, ◌+◌, ◌-◌, ◌≤◌, ◌<◌}
use native.Mathlib.Nat.{add_assoc}
use native.Mathlib.Omega.{arith}
use mathlib.Core.Path.{◌≡◌, sym, ap, ap₂, ◌∙◌}
use mathlib.Core.List.{List, ◌++◌, append_assoc}
use lib.ListN.{length, take, drop, get_or, replicate, length-replicate, replicate-append-replicate, length-append, length-drop, get_or-append}
use lib.Seq.{drop-drop, length-take-le, get_or-append-add, get_or-take, get_or-drop, take_at, drop_at}
use borrow.Rule.Slice.PartMut.{put_mid}
use Rattle.memory.specs.Run.{put}

-- a part that was lent comes back as `put`
pub mid_put : (a k : ℕ) (m v : List ℕ) → length v ≡ k → put_mid a k m v ≡ put a v m
mid_put a k m v h = ap (λ (z : List ℕ). take a m ++ (v ++ z)) (drop-drop k a m ∙ ap (λ (n : ℕ). drop (a + n) m) (sym h))

-- behind what is written already
pub put_next : (n : ℕ) (a t v : List ℕ) → length a ≡ n → put n v (a ++ drop n t) ≡ (a ++ v) ++ drop (n + length v) t
put_next n a t v h =
    ap₂ (λ (x y : List ℕ). x ++ (v ++ y)) (take_at a (drop n t) n h) (sym (drop-drop (length v) n (a ++ drop n t)) ∙ ap (λ (z : List ℕ). drop (length v) z) (drop_at a (drop n t) n h) ∙ drop-drop (length v) n t)
    ∙ sym (append_assoc a v (drop (n + length v) t))

-- over as many bytes
put_over : (n : ℕ) (a w b v : List ℕ) → length a ≡ n → length w ≡ length v → put n v (a ++ (w ++ b)) ≡ a ++ (v ++ b)
put_over n a w b v h l =
    ap₂ (λ (x y : List ℕ). x ++ (v ++ y)) (take_at a (w ++ b) n h) (sym (drop-drop (length v) n (a ++ (w ++ b))) ∙ ap (λ (z : List ℕ). drop (length v) z) (drop_at a (w ++ b) n h) ∙ drop_at w b (length v) l)

module _ (at : ℕ) (u m : List ℕ) (h : at ≤ length m) where
  front_length : length (take at m ++ u) ≡ at + length u
  front_length = length-append (take at m) u ∙ ap (λ (n : ℕ). n + length u) (length-take-le at m h)

  -- two runs, one behind the other, are one
  put_behind : (v : List ℕ) → put (at + length u) v (put at u m) ≡ put at (u ++ v) m
  put_behind v = rw (← append_assoc (take at m) u (drop (at + length u) m), put_next (at + length u) (take at m ++ u) m v front_length) (simp (append_assoc, length-append, add_assoc))

  -- a run over the middle of another
  put_middle : (w z v : List ℕ) → length w ≡ length v → put (at + length u) v (put at (u ++ (w ++ z)) m) ≡ put at (u ++ (v ++ z)) m
  put_middle w z v l =
      let d = drop (at + length (u ++ (w ++ z))) m in
      let e : put at (u ++ (w ++ z)) m ≡ (take at m ++ u) ++ (w ++ (z ++ d)) = simp append_assoc in
      let e' : (take at m ++ u) ++ (v ++ (z ++ d)) ≡ put at (u ++ (v ++ z)) m = simp (append_assoc, length-append, l) in
      ap (λ (x : List ℕ). put (at + length u) v x) e ∙ put_over (at + length u) (take at m ++ u) w (z ++ d) v front_length l ∙ e'

-- a run of zeros, and a run over it, is the run with zeros only in the gaps: k in front of it, l behind it
pub put_gaps : (at len c e k l : ℕ) (v m : List ℕ) → at + k ≡ c → c + length v ≡ e → e + l ≡ at + len → at + len ≤ length m
    → put c v (put at (replicate len 0) m) ≡ put e (replicate l 0) (put c v (put at (replicate k 0) m))
put_gaps at len c e k l v m p q r h =
    let u : List ℕ = replicate k 0 in
    let w : List ℕ = replicate (length v) 0 in
    let z : List ℕ = replicate l 0 in
    let long : len ≡ k + (length v + l) = omega arith in
    let zeros : replicate len 0 ≡ u ++ (w ++ z) = simp (replicate-append-replicate, long) in
    let here : c ≡ at + length u = sym p ∙ ap (λ (n : ℕ). at + n) (sym (length-replicate k 0)) in
    let there : e ≡ at + length (u ++ v) = rw (length-append, length-replicate) (omega arith) in
    let start : at ≤ length m = omega arith in
    rw (here, there, zeros, put_middle at u m start w z v (length-replicate (length v) 0), put_behind at u m start v, put_behind at (u ++ v) m start z, append_assoc u v z)

module _ (at : ℕ) (v m : List ℕ) (h : at + length v ≤ length m) where
  head_length : length (take at m) ≡ at
  head_length = length-take-le at m (omega arith)

  pub length_put : length (put at v m) ≡ length m
  length_put =
      length-append (take at m) (v ++ drop (at + length v) m)
      ∙ ap₂ (λ (x y : ℕ). x + y) head_length (length-append v (drop (at + length v) m) ∙ ap (λ (x : ℕ). length v + x) (length-drop (at + length v) m))
      ∙ omega arith

  pub put_in : (i : ℕ) → at ≤ i → i < at + length v → get_or (put at v m) i 0 ≡ get_or v (i - at) 0
  put_in i a b =
      let e : length (take at m) + (i - at) ≡ i = omega (arith, head_length) in
      ap (λ (j : ℕ). get_or (put at v m) j 0) (sym e)
      ∙ get_or-append-add (take at m) (v ++ drop (at + length v) m) (i - at) 0
      ∙ get_or-append v (drop (at + length v) m) 0 (i - at) (omega arith)

  pub put_below : (i : ℕ) → i < at → get_or (put at v m) i 0 ≡ get_or m i 0
  put_below i b = get_or-append (take at m) (v ++ drop (at + length v) m) 0 i (omega (arith, head_length)) ∙ get_or-take at m i 0 b

  pub put_above : (i : ℕ) → at + length v ≤ i → get_or (put at v m) i 0 ≡ get_or m i 0
  put_above i b =
      let e : length (take at m) + (i - at) ≡ i = omega (arith, head_length) in
      let e' : length v + (i - at - length v) ≡ i - at = omega arith in
      let e'' : at + length v + (i - at - length v) ≡ i = omega arith in
      ap (λ (j : ℕ). get_or (put at v m) j 0) (sym e)
      ∙ get_or-append-add (take at m) (v ++ drop (at + length v) m) (i - at) 0
      ∙ ap (λ (j : ℕ). get_or (v ++ drop (at + length v) m) j 0) (sym e')
      ∙ get_or-append-add v (drop (at + length v) m) (i - at - length v) 0
      ∙ get_or-drop (at + length v) m (i - at - length v) 0
      ∙ ap (λ (j : ℕ). get_or m j 0) e''
