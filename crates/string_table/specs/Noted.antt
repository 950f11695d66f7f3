-- What is noted of the strings of a table that were compared with one name.
-- is_long name               a name is long from 256 bytes on
-- span_of len                 how many offsets one mark stands for, in a table of len bytes
-- front_of span name         how many bytes of a name stand before its last span bytes
-- ending t name span o       the last span bytes of the name are a string of the table, where they stand if the name stands at o
-- Noted t name span marks    there are marks for all offsets, and a mark tells the truth: the string is not the name at any of its
--                            offsets where the name's last bytes stand
-- noting t name span o marks the marks after the string at o was compared: where the name's last bytes stand and the string is not
--                            the name, that is noted
-- Notes, noted               the same with the span of the table
-- Assumes nothing.
use Rattle.std.specs.Prelude.{ℕ, ◌+◌, ◌-◌, ◌*◌, ◌/◌, ◌<◌, ◌≡◌, Bool, true, false, cond, ◌&&◌, not, List, length, drop, ltb, leb}
use Rattle.marks.specs.Marks.{marked, marking}
use Rattle.string_table.specs.Text.{text_at, same_bytes}

abbrev pub is_long : List ℕ → Bool
is_long name = leb 256 (length name)

abbrev pub span_of : ℕ → ℕ
span_of len = len / 8192 + 1

abbrev pub front_of : ℕ → List ℕ → ℕ
front_of span name = length name - span

abbrev pub ending : List ℕ → List ℕ → ℕ → ℕ → Bool
ending t name span o = same_bytes (text_at t (o + front_of span name)) (drop (front_of span name) name)

pub record Noted (t name : List ℕ) (span : ℕ) (marks : List ℕ) : Type 0 where
  pub some : 0 < span
  pub room : length t < span * (8 * length marks)
  pub other : (o : ℕ) → marked marks (o / span) ≡ true → ending t name span o ≡ true → same_bytes (text_at t o) name ≡ false

unfoldable pub noting : List ℕ → List ℕ → ℕ → ℕ → List ℕ → List ℕ
noting t name span o marks =
    cond (ltb span (length name) && ending t name span o && not (marked marks (o / span)) && not (same_bytes (text_at t o) name)) (marking marks (o / span)) marks

abbrev pub Notes : List ℕ → List ℕ → List ℕ → Type 0
Notes t name marks = Noted t name (span_of (length t)) marks

abbrev pub noted : List ℕ → List ℕ → ℕ → List ℕ → List ℕ
noted t name o marks = noting t name (span_of (length t)) o marks
