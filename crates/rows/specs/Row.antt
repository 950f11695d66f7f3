-- The entries as rows of numbers, in the order in which include/loadplan.h lists the values.
-- twos w z           the two's complement of z in w bytes: what a signed number crosses as
-- section_row h ..   the values of an entry, a function for each kind
-- packed_at c e s o    the symbol at o, as one that is to be packed
-- packed_row s       a symbol in four values: the second has info in bits 0 to 7, other in 8 to 15, shndx in 16 to 31
-- Assumes nothing.
use Rattle.std.specs.Prelude.{ℕ, suc, ◌+◌, ◌*◌, ◌-◌, ◌^◌, List, [], ◌∷◌, ℤ, pos, negsuc}
use Rattle.endian.specs.declared.Order.{Order}
use Rattle.endian.specs.declared.Class.{Class}
use Rattle.section.specs.declared.SectionHeader.{SectionHeader}
use Rattle.segment.specs.declared.ProgramHeader.{ProgramHeader}
use Rattle.symbol.specs.declared.Symbol.{Symbol}
use Rattle.symbol.specs.Layout.{symbol_at}
use Rattle.rows.specs.declared.PackedSymbol.{PackedSymbol}
use Rattle.relocation.specs.declared.Rel.{Rel}
use Rattle.relocation.specs.declared.Rela.{Rela}
use Rattle.dynamic.specs.declared.Dyn.{Dyn}

abbrev pub twos : ℕ → ℤ → ℕ
twos w (pos n) = n
twos w (negsuc m) = 256 ^ w - suc m

abbrev pub section_row : SectionHeader → List ℕ
section_row h = h.name ∷ h.kind ∷ h.flags ∷ h.addr ∷ h.offset ∷ h.size ∷ h.link ∷ h.info ∷ h.addralign ∷ h.entsize ∷ []

abbrev pub segment_row : ProgramHeader → List ℕ
segment_row h = h.kind ∷ h.offset ∷ h.vaddr ∷ h.paddr ∷ h.filesz ∷ h.memsz ∷ h.flags ∷ h.align ∷ []

abbrev pub symbol_row : Symbol → List ℕ
symbol_row s = s.name ∷ s.shndx ∷ s.info ∷ s.other ∷ s.value ∷ s.size ∷ []

abbrev pub packed_at : Class → Order → List ℕ → ℕ → PackedSymbol
packed_at c e s o = record { 0 = symbol_at c e s o }

abbrev pub packed_row : Symbol → List ℕ
packed_row s = s.name ∷ (s.info + s.other * 2 ^ 8 + s.shndx * 2 ^ 16) ∷ s.value ∷ s.size ∷ []

abbrev pub rel_row : Rel → List ℕ
rel_row x = x.offset ∷ x.sym ∷ x.kind ∷ []

abbrev pub rela_row : Rela → List ℕ
rela_row x = x.offset ∷ x.sym ∷ x.kind ∷ twos 8 x.addend ∷ []

abbrev pub dyn_row : Dyn → List ℕ
dyn_row x = twos 8 x.tag ∷ x.un ∷ []
