-- `string_table::Strings::same_noted` meets its contract: each way through it is a step of `Notes`.
-- Assumes nothing.
use native.Mathlib.Omega.{arith}
use mathlib.Core.Path.{sym, ◌∙◌}
use lib.ListN.{length-take}
use Rattle.string_table.proofs.Laws.{ends_inside, there_below}
use Rattle.string_table.proofs.Notes.{mark_there, short, outside, tail_there, unended, seen_before, seen_same, seen_new}
use Rattle.string_table.proofs.Strings.same_noted.Goals as goal

pub returns-then-n-span : goal.returns-then-n-span
returns-then-n-span c =
    let p = c.requires in
    let k = short _ _ _ _ p.there c.args.name.now.clean p.noted_before _ c.span-span.ensures c.if-n-span.true _ c.same_at.ensures in
    record { answer = k.0; noted_after = k.1 }

pub overflow_sub-self : goal.overflow_sub-self
overflow_sub-self c = omega (arith, there_below _ _ c.requires.there)

pub returns-then-self-o : goal.returns-then-self-o
returns-then-self-o c =
    let p = c.requires in
    let k = outside _ _ _ _ p.there c.args.name.now.clean p.noted_before _ c.span-span.ensures (omega arith) (omega arith) in
    record { answer = k.0; noted_after = k.1 }

pub same_at-requires-2 : goal.same_at-requires-2
same_at-requires-2 c =
    let p = c.requires in
    tail_there _ _ _ _ p.there c.args.name.now.clean p.noted_before _ c.span-span.ensures (omega arith) (omega arith)

pub returns-then-not-same_at : goal.returns-then-not-same_at
returns-then-not-same_at c =
    let p = c.requires in
    let e = sym (rw c.behind.ensures at c.same_at-2.ensures) ∙ c.if-not-same_at.true in
    let k = unended _ _ _ _ p.there c.args.name.now.clean p.noted_before _ c.span-span.ensures (omega arith) (omega arith) e in
    record { answer = k.0; noted_after = k.1 }

pub is_marked-requires : goal.is_marked-requires
is_marked-requires c = let p = c.requires in mark_there _ _ _ _ p.there c.args.name.now.clean p.noted_before _ c.span-span.ensures

pub returns-then-is_marked : goal.returns-then-is_marked
returns-then-is_marked c =
    let p = c.requires in
    let e = sym (rw c.behind.ensures at c.same_at-2.ensures) ∙ c.if-not-same_at.false in
    let k = seen_before _ _ _ _ p.there c.args.name.now.clean p.noted_before _ c.span-span.ensures (omega arith) (omega arith) e (sym c.is_marked.ensures ∙ c.if-is_marked.true) in
    record { answer = k.0; noted_after = k.1 }

pub same_run-requires : goal.same_run-requires
same_run-requires c = simp (length-take) (omega (arith, ends_inside c.args.self.now.bytes.now, there_below _ _ c.requires.there))

pub returns-then-same_run : goal.returns-then-same_run
returns-then-same_run c =
    let p = c.requires in
    let e = sym (rw c.behind.ensures at c.same_at-2.ensures) ∙ c.if-not-same_at.false in
    let k = seen_same _ _ _ _ p.there c.args.name.now.clean p.noted_before _ c.span-span.ensures (omega arith) (omega arith) e (sym c.same_run.ensures ∙ c.if-same_run.true) in
    record { answer = k.0; noted_after = k.1 }

pub mark-requires : goal.mark-requires
mark-requires c = let p = c.requires in mark_there _ _ _ _ p.there c.args.name.now.clean p.noted_before _ c.span-span.ensures

pub returns : goal.returns
returns c =
    let p = c.requires in
    let e = sym (rw c.behind.ensures at c.same_at-2.ensures) ∙ c.if-not-same_at.false in
    let k = seen_new _ _ _ _ p.there c.args.name.now.clean p.noted_before _ c.span-span.ensures (omega arith) (omega arith) e (sym c.is_marked.ensures ∙ c.if-is_marked.false) (sym c.same_run.ensures ∙ c.if-same_run.false) in
    record { answer = k.0; noted_after = c.mark.ensures ∙ k.1 }
