-- What opening a file answers, by its header and its tables.
-- Assumes nothing.
use Rattle.std.proofs.Common.{◌≡◌, ℕ, ◌≤◌, List, length, Result, Ok, Err, refl}
use Rattle.endian.specs.Place.{size_of, file_header}
use Rattle.endian.specs.declared.fault.Fault.{Fault}
use Rattle.file.specs.Layout.{header_at}
use Rattle.file.specs.Open.{header_of}
use Rattle.file.specs.declared.FileHeader.{FileHeader}
use Rattle.elf_bytes.specs.Open.{open_of}
use Rattle.elf_bytes.specs.declared.Elf.{Elf}
use Rattle.elf_bytes.proofs.Laws.{opened_header, refused_header}
use Rattle.replies.specs.Reply.{opening_of}

pub header_room : (s : List ℕ) (elf : Elf) → open_of s ≡ Ok elf → size_of file_header elf.class ≤ length s
header_room s elf e = (opened_header s elf e).0

pub opening_told : (s : List ℕ) (elf : Elf) → open_of s ≡ Ok elf
    → opening_of (header_of s) (open_of s) ≡ Ok (record { header = header_at elf.class elf.order s; sections = elf.sections; segments = elf.segments })
unfolding opening_of
opening_told s elf e = let h = opened_header s elf e in rw (e, h.1)

-- a file that is refused for its header is refused for the same reason
pub opening_refused : (s : List ℕ) (f : Fault) → open_of s ≡ Err f → opening_of (header_of s) (open_of s) ≡ Err f
unfolding opening_of
opening_refused s f e = rw e (pick (header_of s) (λ g h. refused_header s f g e h))
  where
    pick : (h : Result FileHeader Fault) → ((g : Fault) → h ≡ Err g → g ≡ f) → opening_of h (Err f) ≡ Err f
    pick (Ok x) k = refl
    pick (Err g) k = let q = k g refl in cc
