-- `walks::walk_in` meets its contract: each turn's entry lies in the table, and its row in the array.
-- Assumes nothing.
use Rattle.std.proofs.Common.{◌+◌, ◌*◌, ◌<◌, ◌≤◌, length, ◌≡◌, ◌∙◌, arith}
use Rattle.walks.specs.Walk.{batch_of}
use Rattle.walks.proofs.Turns.{no_turn, turn, batch_entry, batch_row, batch_number}
use Rattle.walks.proofs.walk_in.Given.{Over}
use Rattle.walks.proofs.walk_in.Goals as goal
use Rattle.walks.proofs.walk_in.Goals.{In-loop-k}

-- a turn's number is below the batch's
in_batch : (g : Over) (c : In-loop-k g) → c.loop-k.k < batch_of c.size_of-size.result (length c.args.t.now) c.args.from g.row.N (length c.args.out.now)
in_batch g c = rw c.batch-n.ensures at c.loop-k-test.true

positive : (g : Over) (c : In-loop-k g) → 0 < c.size_of-size.result
positive g c = rw c.size_of-size.ensures (g.met.E.ParseAt.some_bytes c.args.class)

entry_in : (g : Over) (c : In-loop-k g) → (c.args.from + c.loop-k.k) * c.size_of-size.result + c.size_of-size.result ≤ length c.args.t.now
entry_in g c = batch_entry c.size_of-size.result (length c.args.t.now) c.args.from g.row.N (length c.args.out.now) c.loop-k.k (positive g c) (in_batch g c)

row_in : (g : Over) (c : In-loop-k g) → c.loop-k.k * g.row.N + g.row.N ≤ length c.args.out.now
row_in g c = batch_row c.size_of-size.result (length c.args.t.now) c.args.from g.row.N (length c.args.out.now) c.loop-k.k g.met.E.Row.some_values (in_batch g c)

pub loop-k-init : goal.loop-k-init
loop-k-init g c = no_turn _ g.row.N (λ i. g.met.E.Row.wide _) c.args.from c.args.out.now

pub overflow_add-from : goal.overflow_add-from
overflow_add-from g c =
    omega (arith, batch_number c.size_of-size.result (length c.args.t.now) c.args.from g.row.N (length c.args.out.now) c.loop-k.k (in_batch g (goal.at.overflow_add-from g c).In-loop-k))

pub overflow_mul-from : goal.overflow_mul-from
overflow_mul-from g c = omega (arith, entry_in g (goal.at.overflow_mul-from g c).In-loop-k)

pub read-entry-requires : goal.read-entry-requires
read-entry-requires g c = rw (← c.size_of-size.ensures) (entry_in g (goal.at.read-entry-requires g c).In-loop-k)

pub overflow_mul-k : goal.overflow_mul-k
overflow_mul-k g c = omega (arith, row_in g (goal.at.overflow_mul-k g c).In-loop-k)

pub put_row-requires : goal.put_row-requires
put_row-requires g c =
    let l : length c.row.result ≡ g.row.N = rw c.row.ensures (g.met.E.Row.wide _) in
    omega (arith, row_in g (goal.at.put_row-requires g c).In-loop-k, c.loop-k.auto.out)

pub loop-k-preserved : goal.loop-k-preserved
loop-k-preserved g c =
    let a = c.args in
    c.put_row.ensures
    ∙ rw (c.row.ensures, c.read-entry.ensures, c.size_of-size.ensures, c.loop-k.invariant)
    (turn (λ i. g.E.Row.values (g.E.ParseAt.at a.class a.order a.t.now (i * g.E.ParseAt.size a.class))) g.row.N (λ i. g.met.E.Row.wide _) a.from c.loop-k.k a.out.now)

pub returns : goal.returns
returns g c =
    let k : c.loop-k.k ≡ c.batch-n.result = omega arith in
    record {
      many = rw c.size_of-size.ensures at c.batch-n.ensures;
      written = rw (← k) c.loop-k.invariant;
    }
