-- Well-formed UTF-8, from the Unicode standard's table of well-formed byte sequences (Table 3-7), and a string read as such.
-- Span, span l h      the bytes from l to h
-- within p b          the byte b is one of them
-- tail, never         a byte that continues a sequence; no byte at all
-- row_of b             what must follow the first byte b: the rest of the table's row
-- follows ps s        the bytes s start with one of each of the spans ps, and what is left is well-formed
-- well_formed s       s is a sequence of rows
-- awaited m l h       m bytes that are still to come, the first of them from l to h
-- step_of ps b         what must follow when b has come and ps were awaited
-- utf8_fault s o      the string's fault, then NotUtf8 where it is not UTF-8
-- Assumes nothing.
use Rattle.std.specs.Prelude.{ℕ, zero, suc, Bool, true, false, cond, ◌&&◌, List, [], ◌∷◌, replicate, leb, Result, Ok, Err, ⊤}
use Rattle.endian.specs.declared.fault.Fault.{Fault}
use Rattle.endian.specs.declared.fault.Fault.TheVariants.{NotUtf8}
use Rattle.endian.specs.Range.{◌>>=◌}
use Rattle.string_table.specs.Text.{text_fault, text_at}
use Rattle.string_table.specs.declared.Awaited.{Awaited}

pub record Span : Type 0 where
  pub low : ℕ
  pub high : ℕ

abbrev pub span : ℕ → ℕ → Span
span l h = record { low = l; high = h }

abbrev pub within : Span → ℕ → Bool
within p b = leb p.low b && leb b p.high

abbrev pub tail : Span
tail = span 0x80 0xbf

-- no byte is at least 1 and at most 0
abbrev pub never : Span
never = span 1 0

-- c0, c1 and f5 to ff stand in no row, nor does a tail: nothing can follow them
unfoldable pub row_of : ℕ → List Span
row_of b =
    cond (within (span 0x00 0x7f) b) []
    (cond (within (span 0xc2 0xdf) b) (tail ∷ [])
    (cond (within (span 0xe0 0xe0) b) (span 0xa0 0xbf ∷ tail ∷ [])
    (cond (within (span 0xe1 0xec) b) (tail ∷ tail ∷ [])
    (cond (within (span 0xed 0xed) b) (span 0x80 0x9f ∷ tail ∷ [])
    (cond (within (span 0xee 0xef) b) (tail ∷ tail ∷ [])
    (cond (within (span 0xf0 0xf0) b) (span 0x90 0xbf ∷ tail ∷ tail ∷ [])
    (cond (within (span 0xf1 0xf3) b) (tail ∷ tail ∷ tail ∷ [])
    (cond (within (span 0xf4 0xf4) b) (span 0x80 0x8f ∷ tail ∷ tail ∷ [])
    (never ∷ [])))))))))

unfoldable pub follows : List Span → List ℕ → Bool
follows [] [] = true
follows [] (b ∷ s) = follows (row_of b) s
follows (p ∷ ps) [] = false
follows (p ∷ ps) (b ∷ s) = within p b && follows ps s

unfoldable pub well_formed : List ℕ → Bool
well_formed s = follows [] s

abbrev pub pending : ℕ → ℕ → ℕ → List Span
pending zero l h = []
pending (suc m) l h = span l h ∷ replicate m tail

unfoldable pub awaited : Awaited → List Span
awaited a = pending a.more a.low a.high

unfoldable pub step_of : List Span → ℕ → List Span
step_of [] b = row_of b
step_of (p ∷ ps) b = cond (within p b) ps (never ∷ [])

unfoldable pub utf8_fault : List ℕ → ℕ → Result ⊤ Fault
utf8_fault s o = text_fault s o >>= λ _. cond (well_formed (text_at s o)) (Ok tt) (Err NotUtf8)
