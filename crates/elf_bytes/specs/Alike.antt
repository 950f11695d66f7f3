-- What opening reads of a file.
-- head_size i     how many bytes of the header are read: the identification, and then the header of the class that it says
-- extended h      a count stands in section header 0
-- SameHead f g    equal lengths, and the same bytes in the header, and in section header 0 where a count stands there
-- Assumes nothing.
use Rattle.std.specs.Prelude.{ℕ, ◌+◌, ◌≤◌, ◌<◌, ◌≡◌, Bool, true, ◌||◌, List, length, get_or, eqb, Result, Ok, Err}
use Rattle.endian.specs.declared.fault.Fault.{Fault}
use Rattle.endian.specs.Place.{size_of, file_header, section_header}
use Rattle.file.specs.Open.{ident_of, header_of}
use Rattle.file.specs.declared.FileHeader.{FileHeader}
use Rattle.file.specs.declared.Ident.{Ident}

abbrev pub head_size : Result Ident Fault → ℕ
head_size (Err x) = 16
head_size (Ok i) = size_of file_header i.class

abbrev pub extended : FileHeader → Bool
extended h = eqb h.shnum 0 || eqb h.phnum 65535

pub record SameHead (f g : List ℕ) : Type 0 where
  pub same_length : length f ≡ length g
  pub header : (i : ℕ) → i < head_size (ident_of f) → get_or f i 0 ≡ get_or g i 0
  pub counts : (h : FileHeader) → header_of f ≡ Ok h → extended h ≡ true → (i : ℕ) → h.shoff ≤ i → i < h.shoff + size_of section_header h.class → get_or f i 0 ≡ get_or g i 0
