-- `string_table::same_words` meets its contract: a word that differs decides, and the first one where all others agree.
-- Assumes nothing.
use native.Mathlib.Omega.{arith}
use mathlib.Core.Path.{sym, ◌∙◌}
use Rattle.string_table.proofs.Runs.{word_other, word_matched, first_word}
use Rattle.string_table.proofs.same_words.Goals as goal

pub returns-then-read : goal.returns-then-read
returns-then-read c = sym (word_other _ _ _ _ (omega arith) (λ e. c.if-read.true (c.read.ensures ∙ e ∙ sym c.read-in-loop-k.ensures)))

pub loop-k-preserved : goal.loop-k-preserved
loop-k-preserved c =
    let a = c.args in (
      omega arith,
      word_matched a.t.now a.o a.name.now (λ i. omega (arith, c.type_inv.t i)) (λ i. omega (arith, c.type_inv.name i)) _ _ (omega arith)
          (sym c.read.ensures ∙ c.if-read.false ∙ c.read-in-loop-k.ensures) c.loop-k.invariant.1,
    )

pub returns : goal.returns
returns c =
    let a = c.args in
    rw (c.read-2.ensures, c.read-3.ensures)
    (first_word a.t.now a.o a.name.now (λ i. omega (arith, c.type_inv.t i)) (λ i. omega (arith, c.type_inv.name i)) _
    c.loop-k-test.false c.requires.eight c.requires.room c.loop-k.invariant.1)
