-- `lookup::search` meets its contract. The invariant: what is left of the search finds what the whole search finds, and what is
-- noted is true.
-- Assumes nothing.
use Rattle.std.proofs.Common.{◌≡◌, ◌-◌}
use Rattle.parse.specs.First.{first_from}
use Rattle.string_table.specs.Noted.{Notes}
use Rattle.lookup.specs.Lookup.{named, first_named}
use Rattle.lookup.proofs.search.Given as goal

abbrev pub invariant-loop-i : goal.invariant-loop-i
invariant-loop-i l = record {
  rest : first_from (named l.order l.t l.size l.strings.bytes.now l.name.bytes.now) (l.i-end - l.i) l.i ≡ first_named l.order l.t l.size l.strings.bytes.now l.name.bytes.now;
  noted : Notes l.strings.bytes.now l.name.bytes.now l.marks;
}
