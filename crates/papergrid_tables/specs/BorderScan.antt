-- The test by which lines are scanned.
use Rattle.std.specs.Prelude.{ℕ, ◌==◌, ◌&&◌, ◌||◌, Bool, Option, is_some}

module _ {T : Type 0} where
  -- whether the end of a line at an index is set
  abbrev pub has_end : ℕ → ℕ → Option T → Option T → Bool
  has_end index count first end = (index == 0 && is_some first) || (index == count && is_some end)
