-- A string of a string table: the bytes from an offset up to the first zero byte.
-- is_zero s i               the byte i of the table s is zero
-- end_of s o                where the first zero byte at or behind o stands
-- last_below p n           the last of the numbers below n at which p holds
-- last_zero s              where the last zero byte of the table stands
-- ends_of s                the place behind it, and 0 where there is none: strings stand at the offsets below
-- text_fault s o           BadOffset for an empty table or an offset beyond its end, NoZeroByte for no zero byte from there on
-- fault_with last len o    the same of a table of len bytes whose last zero byte is known
-- text_at s o              the bytes of the string at o
-- text_range s o           where they stand in the table
-- same_bytes s t           whether two byte lists are equal
-- same_run t o name        whether the bytes of the name stand at o in t
-- is_clean name            no byte of the name is zero
-- Assumes nothing.
use Rattle.std.specs.Prelude.{ℕ, zero, suc, ◌+◌, ◌-◌, Bool, true, false, cond, ◌&&◌, not, List, [], ◌∷◌, length, get_or, take, drop, eqb, ltb, leb, Option, Some, None, Result, Ok, Err, ⊤}
use Rattle.endian.specs.declared.fault.Fault.{Fault}
use Rattle.endian.specs.declared.fault.Fault.TheVariants.{BadOffset, NoZeroByte}
use Rattle.parse.specs.First.{first_from}
use Rattle.parse.specs.declared.Range.{Range}

abbrev pub is_zero : List ℕ → ℕ → Bool
is_zero s i = eqb (get_or s i 0) 0

unfoldable pub end_of : List ℕ → ℕ → Option ℕ
end_of s o = first_from (is_zero s) (length s - o) o

unfoldable pub last_below : (ℕ → Bool) → ℕ → Option ℕ
last_below p zero = None
last_below p (suc n) = cond (p n) (Some n) (last_below p n)

unfoldable pub last_zero : List ℕ → Option ℕ
last_zero s = last_below (is_zero s) (length s)

abbrev pub behind : Option ℕ → ℕ
behind None = 0
behind (Some e) = e + 1

abbrev pub ends_of : List ℕ → ℕ
ends_of s = behind (last_zero s)

abbrev pub no_end : Option ℕ → Result ⊤ Fault
no_end (Some e) = Ok tt
no_end None = Err NoZeroByte

-- an offset that equals the length is inside, and then has no zero byte
unfoldable pub text_fault : List ℕ → ℕ → Result ⊤ Fault
text_fault s o = cond (eqb (length s) 0) (Err BadOffset) (cond (ltb (length s) o) (Err BadOffset) (no_end (end_of s o)))

abbrev pub none_from : ℕ → Option ℕ → Result ⊤ Fault
none_from o (Some e) = cond (leb o e) (Ok tt) (Err NoZeroByte)
none_from o None = Err NoZeroByte

unfoldable pub fault_with : Option ℕ → ℕ → ℕ → Result ⊤ Fault
fault_with last len o = cond (eqb len 0) (Err BadOffset) (cond (ltb len o) (Err BadOffset) (none_from o last))

abbrev pub up_to : List ℕ → ℕ → Option ℕ → List ℕ
up_to s o (Some e) = take (e - o) (drop o s)
up_to s o None = []

-- the string, or nothing where there is none
unfoldable pub text_at : List ℕ → ℕ → List ℕ
text_at s o = up_to s o (end_of s o)

abbrev pub between : ℕ → Option ℕ → Range
between o (Some e) = record { from = o; to = e }
between o None = record { from = o; to = o }

unfoldable pub text_range : List ℕ → ℕ → Range
text_range s o = between o (end_of s o)

unfoldable pub same_bytes : List ℕ → List ℕ → Bool
same_bytes [] [] = true
same_bytes [] (b ∷ t) = false
same_bytes (a ∷ s) [] = false
same_bytes (a ∷ s) (b ∷ t) = eqb a b && same_bytes s t

unfoldable pub same_run : List ℕ → ℕ → List ℕ → Bool
same_run t o name = same_bytes (take (length name) (drop o t)) name

unfoldable pub is_clean : List ℕ → Bool
is_clean [] = true
is_clean (b ∷ s) = not (eqb b 0) && is_clean s
