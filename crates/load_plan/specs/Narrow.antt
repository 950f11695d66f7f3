-- What the plan reads of a file: two files that are alike there get the same plan.
-- Alike f g       what opening reads is the same (SameHead), and so are the bytes of the program headers
-- Assumes nothing.
use Rattle.std.specs.Prelude.{ℕ, ◌+◌, ◌*◌, ◌≤◌, ◌<◌, ◌≡◌, List, get_or, Ok}
use Rattle.endian.specs.Place.{size_of, program_header}
use Rattle.elf_bytes.specs.Alike.{SameHead}
use Rattle.load_plan.specs.declared.Job.{Job}
use Rattle.load_plan.specs.Plan.{begun_of}

pub record Alike (f g : List ℕ) : Type 0 where
  pub head : SameHead f g
  pub segments : (j : Job) → begun_of f ≡ Ok j → (i : ℕ) → j.from ≤ i → i < j.from + j.count * size_of program_header j.class → get_or f i 0 ≡ get_or g i 0
