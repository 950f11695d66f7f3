-- A name that strings are compared with, as its type tells whether it holds a zero byte.
-- bytes_of name             the bytes of the name
-- Assumes nothing.
use Rattle.std.specs.Prelude.{ℕ, List, Result, Ok, Err}
use Rattle.string_table.specs.declared.name.CleanName.{CleanName}
use Rattle.string_table.specs.declared.name.UncleanName.{UncleanName}

abbrev pub bytes_of : Result CleanName UncleanName → List ℕ
bytes_of (Ok name) = name.bytes.now
bytes_of (Err name) = name.bytes.now
