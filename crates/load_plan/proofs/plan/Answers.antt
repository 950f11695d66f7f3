-- `plan` meets its contract: a file that can't be begun, one that is refused, one that is planned.
-- Assumes nothing.
use mathlib.Core.Path.{sym, ◌∙◌}
use Rattle.std.proofs.lemmas.Result.{err_from_is_err_and}
use Rattle.load_plan.proofs.Accept.{accepted, made_closed, made_planned, made_refused}
use Rattle.load_plan.proofs.plan.Goals as goal

pub returns-in_err-begun : goal.returns-in_err-begun
returns-in_err-begun c =
    let p = err_from_is_err_and c.from_residual.result c.from_residual.ensures.1 in
    rw (p.1, p.2) (made_closed _ _ _ _ (c.in_err-begun.ensures))

pub returns-in_err-test : goal.returns-in_err-test
returns-in_err-test c =
    let p = err_from_is_err_and c.from_residual-in_err-test.result c.from_residual-in_err-test.ensures.1 in
    let q = c.in_ok-begun.ensures in
    rw (p.1, p.2) (made_refused _ _ _ _ q.1 _ (rw q.0 at (sym c.test.ensures ∙ c.in_err-test.was)))

pub fill-requires : goal.fill-requires
fill-requires c = accepted _ _ _ _ c.in_ok-begun.begun.held (sym c.test.ensures ∙ c.in_ok-test.was)

pub returns : goal.returns
returns c =
    let q = c.in_ok-begun.ensures in
    made_planned _ _ _ _ q.1 (rw q.0 at (sym c.test.ensures ∙ c.in_ok-test.was)) _ _ (rw q.0 at c.fill.ensures)
