-- `Source::carry_plain` meets its contract: the pages zeroed, then the bytes copied, by `carried_parts`. Assumes nothing.
use Prim.Native.Nat.{◌+◌, ◌-◌}
use native.Mathlib.Omega.{arith}
use mathlib.Core.Path.{◌≡◌}
use Rattle.load_image.proofs.Laws.{carried_parts}
use Rattle.load_image.proofs.Source.carry_plain.Goals as goal

pub returns : goal.returns
returns c =
    let r = c.args.r in
    let start = c.args.self.now.start in
    let k : r.page - start + r.len - (r.page - start) ≡ r.len = omega arith in
    let l : r.at - start + r.count - (r.at - start) ≡ r.count = omega arith in
    let i : r.from + r.count - r.from ≡ r.count = omega arith in
    carried_parts start c.args.self.now.file.now r c.args.m.now c.requires (r.page - start + r.len - (r.page - start)) (r.at - start + r.count - (r.at - start)) (r.from + r.count - r.from)
    c.zero.new.s c.copy.new.s k l i c.zero.ensures c.copy.ensures
