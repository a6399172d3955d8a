-- A text that is cut at a run of printable ASCII.
use Rattle.std.specs.Prelude.{◌≡◌, ◌≢◌, ℕ, ◌<◌, ◌++◌, List, true, length, get_or}
use Rattle.std.specs.Int.{is_in_range}
use Rattle.std.specs.List.{list_all}

-- a run of so many bytes between two texts, of which the second does not begin as U+FE0F does
pub record IsSplitAtRun (text before : List ℕ) (count : ℕ) (after : List ℕ) : Type 0 where
  pub run : List ℕ
  pub whole : text ≡ before ++ (run ++ after)
  pub counted : length run ≡ count
  pub some : 0 < count
  pub printable : list_all (is_in_range 0x20 0x7E) run ≡ true
  pub unselected : get_or after 0 0 ≢ 0xEF
