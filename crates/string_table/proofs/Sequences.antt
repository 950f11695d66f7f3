-- The laws of `follows` and `step_of`: well-formed UTF-8, a byte at a time.
-- Assumes nothing.
use Prim.Native.Nat.{ℕ, zero, suc, ◌-◌, ◌≤◌}
use native.Mathlib.Omega.{arith}
use mathlib.Core.Path.{◌≡◌, refl, sym}
use mathlib.Core.Bool.{Bool, true, false, cond, ◌&&◌}
use mathlib.Core.List.{List, [], ◌∷◌}
use lib.ListN.{replicate}
use lib.Dec.{leb, eqb}
use borrow.Author.Tests.{leb-true, le-leb, ne_eqb}
use Rattle.std.proofs.Common.{◌++◌, append_assoc, append-nil, ◌∙◌}
use Rattle.string_table.specs.Utf8.{Span, span, within, tail, never, row_of, follows, well_formed, step_of, pending, awaited}
use Rattle.string_table.specs.declared.Awaited.{Awaited}

-- nothing follows a byte that starts no sequence
never_follows : (ps : List Span) (s : List ℕ) → follows (never ∷ ps) s ≡ false
unfolding follows
never_follows ps [] = refl
never_follows ps (b ∷ s) = pick (leb 1 b) (leb b 0) refl refl
  where
    pick : (x y : Bool) → leb 1 b ≡ x → leb b 0 ≡ y → (x && y && follows ps s) ≡ false
    pick true true p q = let i = leb-true 1 b p in let j = leb-true b 0 q in absurd (omega arith)
    pick true false p q = refl
    pick false y p q = refl

-- one byte: what must follow it says the same of the rest
pub step : (ps : List Span) (b : ℕ) (s : List ℕ) → follows ps (b ∷ s) ≡ follows (step_of ps b) s
unfolding follows step_of
step [] b s = refl
step (p ∷ ps) b s = pick (within p b)
  where
    pick : (t : Bool) → (t && follows ps s) ≡ follows (cond t ps (never ∷ [])) s
    pick true = refl
    pick false = sym (never_follows [] s)

-- the code's three numbers: nothing is awaited, or a byte of a span and tails behind it
pub awaited_none : (a : Awaited) → a.more ≡ 0 → awaited a ≡ []
unfolding awaited
awaited_none a e = rw e

pub awaited_some : (a : Awaited) → (a.more ≡ 0 → ⊥) → awaited a ≡ span a.low a.high ∷ replicate (a.more - 1) tail
unfolding awaited
awaited_some a n = pick a.more n
  where
    pick : (m : ℕ) → (m ≡ 0 → ⊥) → pending m a.low a.high ≡ span a.low a.high ∷ replicate (m - 1) tail
    pick zero h = absurd (h refl)
    pick (suc m) h = let e : suc m - 1 ≡ m = omega arith in rw e

-- an ASCII byte where nothing is awaited changes nothing
pub ascii_kept : (a : Awaited) (b : ℕ) → a.more ≡ 0 → b ≤ 0x7f → awaited a ≡ step_of (awaited a) b
unfolding step_of row_of
ascii_kept a b p q = rw (awaited_none a p, le-leb 0 b (omega arith), le-leb b 0x7f q)

-- at the end of the bytes nothing may be awaited
pub follows_end : (a : Awaited) → eqb a.more 0 ≡ follows (awaited a) []
unfolding follows awaited
follows_end a = pick a.more
  where
    pick : (m : ℕ) → eqb m 0 ≡ follows (pending m a.low a.high) []
    pick zero = refl
    pick (suc m) = ne_eqb (suc m) 0 (λ e. omega arith)

-- the bytes s have come, and ps must follow
abbrev pub Passed : List ℕ → List Span → Type 0
Passed s ps = (rest : List ℕ) → follows [] (s ++ rest) ≡ follows ps rest

pub passed_more : (s : List ℕ) (b : ℕ) (ps qs : List Span) → Passed s ps → qs ≡ step_of ps b → Passed (s ++ (b ∷ [])) qs
passed_more s b ps qs h e rest = rw (append_assoc s (b ∷ []) rest, e) (h (b ∷ rest) ∙ step ps b rest)

pub passed_all : (s : List ℕ) (a : Awaited) → Passed s (awaited a) → eqb a.more 0 ≡ well_formed s
unfolding well_formed
passed_all s a h = follows_end a ∙ sym (rw (append-nil s) at (h []))
