-- `written::header_fits` meets its contract: the narrow numbers fit because they fit the struct.
-- Assumes nothing.
use native.Mathlib.Omega.{arith}
use Rattle.endian.specs.declared.Class.TheVariants.{Elf64}
use Rattle.written.specs.Rows.{Fitting}
use Rattle.written.specs.Headers.{header_rows}
use Rattle.written.proofs.Fits.{header_fits}
use Rattle.written.proofs.header_fits.Goals as goal

pub returns : goal.returns
unfolding header_rows
returns c = let f : Fitting (header_rows Elf64 c.args.h) = omega arith in cc (header_fits c.args.h.class c.args.h f)
