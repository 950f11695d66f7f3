-- `carry_out` meets its contract: records that are not refused lie in the memory and in the file.
-- Assumes nothing.
use mathlib.Core.Path.{sym, ◌∙◌}
use Rattle.load_image.proofs.Laws.{sound}
use Rattle.load_image.proofs.carry_out.Goals as goal

pub carry_all-requires : goal.carry_all-requires
carry_all-requires c =
    let s = sound _ _ _ _ _ (sym c.test.ensures ∙ c.in_ok-test.was) in
    record { room = s.holds; fitted = λ k lt. rw s.memory_is (s.fitted k lt) }
