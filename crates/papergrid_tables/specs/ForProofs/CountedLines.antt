-- The counts of the lines that have an end set.
use Rattle.std.specs.Prelude.{◌≡◌, ◌==◌, ◌&&◌, ◌||◌, ℕ, Bool, false, Option, Some, None, count_by, is_some, nat_eq, nat_lt}
use Rattle.std.specs.HashMap.{HashMap, IsUnique, get, values}
use Rattle.papergrid_tables.specs.ForProofs.Counts.{line_count_of}
use Rattle.papergrid_tables.specs.declared.counted_lines.Lines.{Lines}
use Rattle.papergrid_tables.specs.declared.line_counts.LineCounts.{LineCounts}

module _ {L : Type 0} where
  -- whether there is a line, with that end set
  abbrev pub is_end_set : (L → Bool) → Option L → Bool
  is_end_set is_set None = false
  is_end_set is_set (Some line) = is_set line

  -- so many lines have either end set; no number stands twice, so these are the lines that are found
  pub record AreEndsCounted (has_first has_last : L → Bool) (lines : Lines L) : Type 0 where
    pub first : lines.first_ends ≡ count_by has_first (values lines.values)
    pub last : lines.last_ends ≡ count_by has_last (values lines.values)
    pub unique : IsUnique nat_eq lines.values

  -- one of them ends at the index of so many with that end set, by the counts
  abbrev pub reaches : ℕ → ℕ → Lines L → Bool
  reaches index count lines = (index == 0 && nat_lt 0 lines.first_ends) || (index == count && nat_lt 0 lines.last_ends)

-- a line is stored there, or one of two counts is above 0
abbrev pub is_stored : {L S : Type 0} → HashMap ℕ L S → LineCounts → LineCounts → ℕ → Bool
is_stored lines edges corners line =
    is_some (get nat_eq lines line) || (nat_lt 0 (line_count_of edges.counts line) || nat_lt 0 (line_count_of corners.counts line))
