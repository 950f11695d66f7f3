-- `written::ProgramHeaderWriteAt::fits` meets its contract: the narrow numbers fit because they fit the struct.
-- Assumes nothing.
use native.Mathlib.Omega.{arith}
use Rattle.endian.specs.declared.Class.TheVariants.{Elf64}
use Rattle.written.specs.Rows.{Fitting}
use Rattle.written.specs.Headers.{segment_rows}
use Rattle.written.proofs.Fits.{segment_fits}
use Rattle.written.proofs.ProgramHeaderWriteAt.fits.Goals as goal

pub returns : goal.returns
unfolding segment_rows
returns c = let f : Fitting (segment_rows Elf64 c.args.self) = omega arith in cc (segment_fits c.args.class c.args.self f)
