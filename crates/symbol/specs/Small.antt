-- The small questions of a symbol, in the ABI's words (chapter 4, "Symbol Table").
-- is_undefined s    st_shndx is SHN_UNDEF, which is 0
-- bind_of s         ELF_ST_BIND(st_info), st_info >> 4
-- type_of s          ELF_ST_TYPE(st_info), st_info & 0xf
-- visibility_of s   ELF_ST_VISIBILITY(st_other), st_other & 0x3
-- Assumes nothing.
use Rattle.std.specs.Prelude.{ℕ, ◌/◌, ◌%◌, ◌^◌, Bool, eqb}
use Rattle.symbol.specs.declared.Symbol.{Symbol}

abbrev pub undefined_section : ℕ
undefined_section = 0

abbrev pub is_undefined : Symbol → Bool
is_undefined s = eqb s.shndx undefined_section

abbrev pub bind_of : Symbol → ℕ
bind_of s = s.info / 2 ^ 4

abbrev pub type_of : Symbol → ℕ
type_of s = s.info % 2 ^ 4

abbrev pub visibility_of : Symbol → ℕ
visibility_of s = s.other % 2 ^ 2
