-- `endian::number::place` meets its contract: bytes in place of a part are stores, one behind the other.
-- Assumes nothing.
use Rattle.std.proofs.Common.{length, append_assoc}
use Rattle.std.proofs.lemmas.List.{drop-drop}
use Rattle.std.proofs.Math.Nat.{add-sub_cancel_left}
use Rattle.std.proofs.lemmas.List.Edits.{sets-eq}
use Rattle.endian.proofs.number.place.Goals as goal

pub returns : goal.returns
returns c =
    let a = c.args in
    rw (sets-eq a.bytes.now a.d.now a.o c.requires, add-sub_cancel_left a.o (length a.bytes.now), c.copy_from_slice.ensures.after, append_assoc, drop-drop)
