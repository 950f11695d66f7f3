-- What a window and a segment in it are, as facts about numbers: contracts ask for them.
-- Good w         the window is one
-- Placed l w s   a segment that counts lies in the window, which the file's addresses see at l
-- Assumes nothing.
use Rattle.std.specs.Prelude.{ℕ, ◌+◌, ◌-◌, ◌%◌, ◌^◌, ◌≤◌, ◌<◌, ◌≡◌}
use Rattle.segment.specs.declared.ProgramHeader.{ProgramHeader}
use Rattle.load_rules.specs.declared.Window.{Window}
use Rattle.load_rules.specs.Rules.{max_window}

pub record Good (w : Window) : Type 0 where
  pub start_page : w.start % 4096 ≡ 0
  pub len_page : w.len % 4096 ≡ 0
  pub len_small : w.len ≤ max_window
  pub end_fits : w.start + w.len ≤ 2 ^ 64

pub record Placed (l : ℕ) (w : Window) (s : ProgramHeader) : Type 0 where
  pub page : l % 4096 ≡ 0
  pub below : l ≤ w.start
  pub low : l ≤ s.vaddr
  pub high : s.vaddr - l + s.memsz ≤ w.len
  pub some_memory : 0 < s.memsz
  pub window_good : Good w
