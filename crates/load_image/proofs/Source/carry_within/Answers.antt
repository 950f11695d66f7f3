-- `Source::carry_within` meets its contract: the gaps zeroed and the bytes copied, by `carried_gaps`. Assumes nothing.
use Prim.Native.Nat.{◌+◌, ◌-◌}
use native.Mathlib.Omega.{arith}
use Rattle.load_image.proofs.Laws.{carried_gaps}
use Rattle.load_image.proofs.Source.carry_within.Goals as goal

pub returns : goal.returns
returns c =
    let p = c.requires in
    let r = c.args.r in
    let a = r.page - c.args.self.now.start in
    let e = r.at - c.args.self.now.start in
    carried_gaps c.args.self.now.start c.args.self.now.file.now r c.args.m.now p (e - a) (e + r.count - e) (r.from + r.count - r.from) (a + r.len - (e + r.count))
    c.zero.new.s c.copy.new.s c.zero-2.new.s
    (omega (arith, p.front)) (omega arith) (omega arith) (omega (arith, p.front, p.back, p.fits.page_low, p.fits.at_low))
    c.zero.ensures c.copy.ensures c.zero-2.ensures
