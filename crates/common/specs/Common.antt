-- The common data of a file (document 01, section 5): what its sections, later ones replacing earlier ones, and its segments give.
-- hash_in e o t              a hash table t that starts at o of the file, from its header to the end of its chains
-- hash_of e s o n            the same of the n bytes at o
-- adding k                   whether sections of the type k add something
-- collected s elf c h        what a section with the header h adds
-- step_of s elf c i           what section i adds
-- below_of s elf k           what the sections before the k-th give
-- finished s elf c           without a dynamic section, the first segment of type 2
-- common_of s                the answer of a file's bytes
-- Assumes nothing.
use Rattle.std.specs.Prelude.{ℕ, zero, suc, ◌+◌, ◌-◌, ◌*◌, cond, List, length, Bool, ◌||◌, eqb, leb, Option, Some, None, Result, Ok, Err}
use Rattle.endian.specs.Range.{answer, ◌>>=◌}
use Rattle.endian.specs.Place.{size_of, section_header}
use Rattle.endian.specs.declared.fault.Fault.{Fault}
use Rattle.endian.specs.declared.Order.{Order}
use Rattle.parse.specs.Entry.{count_of, range_of, range_at, part_of}
use Rattle.parse.specs.declared.Range.{Range}
use Rattle.section.specs.Layout.{extent_of}
use Rattle.section.specs.declared.SectionHeader.{SectionHeader}
use Rattle.hash.specs.Table.{hash_fault, head_of}
use Rattle.elf_bytes.specs.Open.{open_of}
use Rattle.elf_bytes.specs.declared.Elf.{Elf}
use Rattle.contents.specs.Contents.{section_in, symbols_in, dynamic_in, asked_of}
use Rattle.contents.specs.declared.SymbolTable.{SymbolTable}
use Rattle.lookup.specs.Lookup.{dynamic_segment}
use Rattle.common.specs.declared.Common.{Common}

abbrev pub common_with : Option SymbolTable → Option SymbolTable → Option Range → Option Range → Common
common_with a b d h = record { symtab = a; dynsym = b; dynamic = d; hash = h }

abbrev pub no_common : Common
no_common = common_with None None None None

-- ---- the hash table: its header and both tables must lie in the section's bytes

abbrev pub hash_size : Order → List ℕ → ℕ
hash_size e t = 8 + 4 * (head_of e t).buckets + 4 * (head_of e t).chains

unfoldable pub hash_in : Order → ℕ → List ℕ → Result Range Fault
hash_in e o t = answer (hash_fault e t) (range_of o (hash_size e t))

unfoldable pub hash_of : Order → List ℕ → ℕ → ℕ → Result Range Fault
hash_of e s o n = do
  r ← range_at (length s) o n
  hash_in e r.from (part_of s r)

-- ---- section by section: symbol tables (types 2 and 11), dynamic entries (6), hash tables (5)

abbrev pub symtab_told : List ℕ → Elf → Common → SectionHeader → Result Common Fault
symtab_told s elf c h = do
  t ← symbols_in s elf (asked_of (extent_of h))
  Ok (common_with (Some t) c.dynsym c.dynamic c.hash)

abbrev pub dynsym_told : List ℕ → Elf → Common → SectionHeader → Result Common Fault
dynsym_told s elf c h = do
  t ← symbols_in s elf (asked_of (extent_of h))
  Ok (common_with c.symtab (Some t) c.dynamic c.hash)

abbrev pub dynamic_told : List ℕ → Elf → Common → SectionHeader → Result Common Fault
dynamic_told s elf c h = do
  r ← dynamic_in elf.class (length s) h.kind h.offset h.size h.entsize
  Ok (common_with c.symtab c.dynsym (Some r) c.hash)

abbrev pub hash_told : List ℕ → Elf → Common → SectionHeader → Result Common Fault
hash_told s elf c h = do
  r ← hash_of elf.order s h.offset h.size
  Ok (common_with c.symtab c.dynsym c.dynamic (Some r))

-- the types of sections that add something
abbrev pub adding : ℕ → Bool
adding k = eqb k 2 || eqb k 5 || eqb k 6 || eqb k 11

unfoldable pub collected : List ℕ → Elf → Common → SectionHeader → Result Common Fault
collected s elf c h =
    cond (eqb h.kind 2) (symtab_told s elf c h)
    (cond (eqb h.kind 11) (dynsym_told s elf c h)
    (cond (eqb h.kind 6) (dynamic_told s elf c h)
    (cond (eqb h.kind 5) (hash_told s elf c h)
    (Ok c))))

abbrev pub collected_from : List ℕ → Elf → Common → Result SectionHeader Fault → Result Common Fault
collected_from s elf c (Err f) = Ok c
collected_from s elf c (Ok h) = collected s elf c h

unfoldable pub step_of : List ℕ → Elf → Common → ℕ → Result Common Fault
step_of s elf c i = collected_from s elf c (section_in s elf i)

unfoldable pub below_of : List ℕ → Elf → ℕ → Result Common Fault
below_of s elf zero = Ok no_common
below_of s elf (suc k) = below_of s elf k >>= λ c. step_of s elf c k

-- how many sections there are
abbrev pub sections_of : Elf → Option Range → ℕ
sections_of elf None = 0
sections_of elf (Some r) = cond (leb r.from r.to) (count_of (size_of section_header elf.class) (r.to - r.from)) 0

abbrev pub finished_with : List ℕ → Elf → Common → Option Range → Result Common Fault
finished_with s elf c None = dynamic_segment s elf >>= λ d. Ok (common_with c.symtab c.dynsym d c.hash)
finished_with s elf c (Some r) = Ok c

unfoldable pub finished : List ℕ → Elf → Common → Result Common Fault
finished s elf c = finished_with s elf c c.dynamic

unfoldable pub common_of : List ℕ → Result Common Fault
common_of s = do
  elf ← open_of s
  c ← below_of s elf (sections_of elf elf.sections)
  finished s elf c
