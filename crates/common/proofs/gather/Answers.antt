-- `common::gather` meets its contract: each counted section is read in the table, and a fault stays the answer.
-- Assumes nothing.
use Rattle.std.proofs.Common.{◌≡◌, ◌+◌, ◌-◌, ◌*◌, ◌<◌, ◌≤◌, suc, length, Err, refl, sym, ◌∙◌, add-one, arith, rules}
use Rattle.endian.specs.Place.{size_of, section_header}
use Rattle.parse.specs.Entry.{count_of}
use Rattle.endian.specs.declared.fault.Fault.{Fault}
use Rattle.elf_bytes.proofs.Laws.{tabled_at}
use Rattle.common.specs.Common.{below_of, sections_of}
use Rattle.common.proofs.Laws.{below_next, below_refused}
use Rattle.common.proofs.Turn.{entry_inside, entry_wide, no_sections, all_sections, turn_told, adds_nothing}
use Rattle.common.proofs.gather.Goals as goal
use Rattle.common.proofs.gather.Goals.{After-count-i-end, In-loop-i, then-adds+in_ok-add, else-adds}

pub returns-in_default : goal.returns-in_default
returns-in_default c = sym (no_sections _ _ c.in_default.is)

pub loop-i-init : goal.loop-i-init
unfolding below_of
loop-i-init c = refl

-- i is a counted entry, which lies in the table
counted : (c : In-loop-i) → c.loop-i.i < count_of (size_of section_header c.args.file.now.elf.class) (length c.part-headers.result.now)
counted c = rw (← c.size_of-size.ensures, ← c.count-i-end.ensures) c.loop-i-test.true

lies : (c : In-loop-i) → c.loop-i.i * c.size_of-size.result + size_of section_header c.args.file.now.elf.class ≤ length c.part-headers.result.now
lies c = rw c.size_of-size.ensures (entry_inside _ _ _ (counted c))

pub overflow_mul-i : goal.overflow_mul-i
overflow_mul-i c = omega (arith, lies (goal.at.overflow_mul-i c).In-loop-i)

pub overflow_add-i : goal.overflow_add-i
overflow_add-i c = omega (arith, lies (goal.at.overflow_add-i c).In-loop-i, entry_wide c.args.file.now.elf.class)

pub read-kind-requires : goal.read-kind-requires
read-kind-requires c = omega (arith, lies (goal.at.read-kind-requires c).In-loop-i, entry_wide c.args.file.now.elf.class)

-- how many sections there are
total : (c : After-count-i-end) → sections_of c.args.file.now.elf c.args.file.now.elf.sections ≡ c.count-i-end.result
total c =
    let b = tabled_at _ _ c.in-Some.r c.args.file.now.whole.sections c.in-Some.is in
    all_sections c.args.file.now.bytes.now c.args.file.now.elf c.in-Some.r c.in-Some.is b.0 b.1
    ∙ sym (rw (c.size_of-size.ensures, c.part-headers.ensures) at c.count-i-end.ensures)

-- a fault stays the answer
refused_after : (c : In-loop-i) (f : Fault) → sections_of c.args.file.now.elf c.args.file.now.elf.sections ≡ c.count-i-end.result
    → below_of c.args.file.now.bytes.now c.args.file.now.elf (suc c.loop-i.i) ≡ Err f
    → below_of c.args.file.now.bytes.now c.args.file.now.elf (sections_of c.args.file.now.elf c.args.file.now.elf.sections) ≡ Err f
refused_after c f t e =
    let i = c.loop-i.i in
    let n = c.count-i-end.result in
    let m : n ≡ suc i + (n - suc i) = omega (arith, c.loop-i-test.true) in
    rw (t, m) (below_refused _ _ f (suc i) (n - suc i) e)

pub overflow_mul-i-then-adds : goal.overflow_mul-i-then-adds
overflow_mul-i-then-adds c = omega (arith, lies (goal.at.overflow_mul-i-then-adds c).In-loop-i)

pub entry_in-x-requires : goal.entry_in-x-requires
entry_in-x-requires c = lies (goal.at.entry_in-x-requires c).In-loop-i

pub returns-in_err-add : goal.returns-in_err-add
returns-in_err-add c =
    let e : c.from_residual.result ≡ Err c.in_err-add.field-0.0 = search rules in
    let s : c.add.result ≡ Err c.in_err-add.field-0.0 = search rules in
    e ∙ sym (refused_after (goal.at.returns-in_err-add c).In-loop-i _ (total (goal.at.returns-in_err-add c).After-count-i-end)
    (below_next _ _ c.loop-i.c c.loop-i.i c.loop-i.invariant
    ∙ turn_told c.args.file.now.bytes.now c.args.file.now.elf c.in-Some.r c.part-headers.result.now c.in-Some.is c.part-headers.ensures c.loop-i.i
    (omega arith) (counted (goal.at.returns-in_err-add c).In-loop-i) c.loop-i.c c.add.new.c c.read-kind.result c.entry_in-x.result c.add.result
    (rw c.size_of-size.ensures at c.read-kind.ensures) (rw c.size_of-size.ensures at c.entry_in-x.ensures) c.add.ensures
    ∙ rw s))

pub loop-i-preserved : goal.loop-i-preserved
loop-i-preserved c =
    let n = below_next _ _ c.loop-i.c c.loop-i.i c.loop-i.invariant in
    rw add-one
    (n ∙
    elim c.if-adds.branch [
      | then-adds+in_ok-add w ↦
          rw w.c-is
          (turn_told c.args.file.now.bytes.now c.args.file.now.elf c.in-Some.r c.part-headers.result.now c.in-Some.is c.part-headers.ensures c.loop-i.i
          (omega arith) (counted (goal.at.loop-i-preserved c).In-loop-i) c.loop-i.c w.add.new.c c.read-kind.result w.entry_in-x.result w.add.result
          (rw c.size_of-size.ensures at c.read-kind.ensures) (rw c.size_of-size.ensures at w.entry_in-x.ensures) w.add.ensures
          ∙ rw w.in_ok-add.was
          )
      | else-adds w ↦
          rw w.c-is
          (adds_nothing c.args.file.now.bytes.now c.args.file.now.elf c.in-Some.r c.part-headers.result.now c.in-Some.is c.part-headers.ensures c.loop-i.i
          (omega arith) (counted (goal.at.loop-i-preserved c).In-loop-i) c.loop-i.c c.read-kind.result (rw c.size_of-size.ensures at c.read-kind.ensures)
          (sym c.adds.ensures ∙ w.if-adds.false)
          )
    ]
    )

pub returns : goal.returns
returns c =
    let k : c.loop-i.i ≡ c.count-i-end.result = omega arith in
    rw (total (goal.at.returns c).After-count-i-end, ← k) (sym c.loop-i.invariant)
