-- `written::SectionHeaderWriteAt::fits` meets its contract: the narrow numbers fit because they fit the struct.
-- Assumes nothing.
use native.Mathlib.Omega.{arith}
use Rattle.endian.specs.declared.Class.TheVariants.{Elf64}
use Rattle.written.specs.Rows.{Fitting}
use Rattle.written.specs.Headers.{section_rows}
use Rattle.written.proofs.Fits.{section_fits}
use Rattle.written.proofs.SectionHeaderWriteAt.fits.Goals as goal

pub returns : goal.returns
unfolding section_rows
returns c = let f : Fitting (section_rows Elf64 c.args.self) = omega arith in cc (section_fits c.args.class c.args.self f)
