-- The rules of the load plan for one segment and one window (document 01, section 7). All numbers are natural numbers, so no sum wraps.
-- max_file, max_window    the longest file and the longest window
-- down, up, first, last   pages: an address rounded down and up; a segment's pages go from first up to, not including, last
-- low kind w              the window's start, as the addresses of a file of this type count: a file of type 3 counts from there
-- loads, real             a segment of type 1; one that is not empty either, so that it counts behind test 23
-- unfit, skewed, outside, write_exec, holds_entry  the tests 22, 23, 24, 26 and 27
-- good_window w           the window is one (24)
-- record_of start l s     the record of a segment, for a window at start that the file's addresses see at l
-- Assumes nothing.
use Rattle.std.specs.Prelude.{ℕ, zero, suc, ◌+◌, ◌-◌, ◌*◌, ◌/◌, ◌%◌, ◌^◌, Bool, false, not, ◌&&◌, ◌||◌, cond, leb, ltb, eqb}
use Rattle.segment.specs.declared.ProgramHeader.{ProgramHeader}
use Rattle.records.specs.declared.Record.{Record}
use Rattle.load_rules.specs.declared.Window.{Window}

-- 1 GiB and 4 GiB
abbrev pub max_file : ℕ
max_file = 2 ^ 30

abbrev pub max_window : ℕ
max_window = 2 ^ 32

-- does p hold of a number below n?
unfoldable pub any_below : (ℕ → Bool) → ℕ → Bool
any_below p zero = false
any_below p (suc n) = any_below p n || p n

-- ---- addresses

abbrev pub down : ℕ → ℕ
down a = a / 4096 * 4096

abbrev pub up : ℕ → ℕ
up a = (a + 4095) / 4096 * 4096

abbrev pub first : ProgramHeader → ℕ
first s = down s.vaddr

abbrev pub last : ProgramHeader → ℕ
last s = up (s.vaddr + s.memsz)

abbrev pub low : ℕ → Window → ℕ
low kind w = cond (eqb kind 3) 0 w.start

-- both are multiples of a page; a window may end at 2^64 exactly
unfoldable pub good_window : Window → Bool
good_window w = (eqb (w.start % 4096) 0 && eqb (w.len % 4096) 0) && (leb w.len max_window && leb (w.start + w.len) (2 ^ 64))

-- ---- the tests, each of one segment

abbrev pub loads : ProgramHeader → Bool
loads s = eqb s.kind 1

-- a segment of memory size 0 is skipped after test 23
abbrev pub real : ProgramHeader → Bool
real s = loads s && ltb 0 s.memsz

unfoldable pub power2 : ℕ → Bool
power2 a = any_below (λ k. eqb a (2 ^ k)) 64

-- 22: file size above memory size, or the bytes aren't in the file, which is len long
abbrev pub unfit : ℕ → ProgramHeader → Bool
unfit len s = loads s && not (leb s.filesz s.memsz && leb (s.offset + s.filesz) len)

-- 23: alignment neither 0 nor a power of two, or the address and the offset differ modulo it
abbrev pub skewed : ProgramHeader → Bool
skewed s = loads s && not ((eqb s.align 0 || power2 s.align) && (eqb s.align 0 || eqb (s.vaddr % s.align) (s.offset % s.align)))

-- 24: addresses leave the window, which starts at l and is len long
abbrev pub outside : ℕ → ℕ → ProgramHeader → Bool
outside l len s = real s && not (leb l s.vaddr && leb (s.vaddr - l + s.memsz) len)

abbrev pub executable : ProgramHeader → Bool
executable s = eqb (s.flags % 2) 1

abbrev pub writable : ProgramHeader → Bool
writable s = eqb (s.flags / 2 % 2) 1

-- 26: writable and executable
abbrev pub write_exec : ProgramHeader → Bool
write_exec s = real s && (executable s && writable s)

-- 27 is that this holds of no segment: e is in the memory range of an executable segment
abbrev pub holds_entry : ℕ → ProgramHeader → Bool
holds_entry e s = real s && (executable s && (leb s.vaddr e && ltb (e - s.vaddr) s.memsz))

-- ---- the record

unfoldable pub record_of : ℕ → ℕ → ProgramHeader → Record
record_of start l s = record {
  page = start + (first s - l);
  len = last s - first s;
  prot = s.flags % 8;
  at = start + (s.vaddr - l);
  count = s.filesz;
  from = s.offset;
}
