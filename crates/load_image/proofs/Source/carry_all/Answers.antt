-- `Source::carry_all` meets its contract: the records before the k-th are carried out.
-- Assumes nothing.
use mathlib.Core.Path.{refl}
use Rattle.load_image.specs.Carry.{carried_below}
use Rattle.load_image.proofs.Laws.{carry_turn}
use Rattle.load_image.proofs.Source.carry_all.Goals as goal

pub loop-k-init : goal.loop-k-init
unfolding carried_below
loop-k-init c = refl

pub carry_one-requires : goal.carry_one-requires
carry_one-requires c = rw (c.read.ensures, c.loop-k.auto.m) (c.requires.fitted c.loop-k.k c.loop-k-test.true)

pub loop-k-preserved : goal.loop-k-preserved
loop-k-preserved c =
    let a = c.args in
    let l = c.loop-k in
    carry_turn a.self.now.start a.self.now.file.now a.t.now l.k a.m.now l.m _ c.read.result c.read.ensures l.invariant c.carry_one.ensures
