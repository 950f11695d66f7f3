-- `load` meets its contract: the end theorem, from what `plan` and `carry_out` ensure.
-- Assumes nothing.
use mathlib.Core.Path.{refl, sym, ◌∙◌}
use borrow.Author.Tests.{eq-eqb, ne_eqb}
use Rattle.std.proofs.lemmas.Result.{err_from_is_err_and}
use Rattle.load_image.specs.Image.{load_answer}
use Rattle.load_image.proofs.Finish.{done, not_refused}
use Rattle.load_image.proofs.load.Goals as goal

pub returns-then-m-w : goal.returns-then-m-w
unfolding load_answer
returns-then-m-w c = record { answers = rw (ne_eqb _ _ c.if-m-w.true); table_is = refl; memory_is = refl }

pub returns-in_err-n : goal.returns-in_err-n
unfolding load_answer
returns-in_err-n c =
    let e = err_from_is_err_and c.from_residual.result c.from_residual.ensures.1 in
    let p = rw c.in_err-n.was at c.plan.ensures in
    rw (e.1, e.2) (record { answers = rw (eq-eqb _ _ c.if-m-w.false) p.answers; table_is = p.table; memory_is = refl })

-- a plan that was made is not refused
pub returns-in_err-carry_out : goal.returns-in_err-carry_out
returns-in_err-carry_out c =
    let a = c.args in
    let p = rw c.in_ok-n.was at c.plan.ensures in
    absurd (not_refused a.f.now a.w a.table.now _ _ p a.m.now c.if-m-w.false _ (sym c.in_err-carry_out.was ∙ c.carry_out.ensures.answers))

pub returns : goal.returns
unfolding load_answer
returns c =
    let a = c.args in
    let p = rw c.in_ok-n.was at c.plan.ensures in
    record {
      answers = rw (eq-eqb _ _ c.if-m-w.false) p.answers;
      table_is = p.table;
      memory_is = done a.f.now a.w a.table.now _ _ p a.m.now _ _ c.if-m-w.false (rw c.in_ok-carry_out.was at c.carry_out.ensures);
    }
