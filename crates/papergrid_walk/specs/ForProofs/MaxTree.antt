-- The ends of rows over columns, in levels: the first has one for each column, the next one for each two columns, and so on.
use Rattle.std.specs.Prelude.{◌≡◌, ℕ, Bool, ◌+◌, ◌/◌, ◌%◌, ◌≤◌, ◌==◌, ◌&&◌, ◌||◌, nat_lt, nat_le, if◌then◌else◌, slice_index, length}
use Rattle.papergrid_walk.specs.declared.max_tree.MaxTree.{MaxTree}
use Rattle.papergrid_walk.specs.declared.max_tree.MaxTree.TheVariants.{Top, Level'}

-- the greater of two
abbrev pub greater : ℕ → ℕ → ℕ
greater a b = if nat_lt a b then b else a

-- the greatest end that was raised over the column
abbrev pub end_at : MaxTree → ℕ → ℕ
end_at Top column = 0
end_at (Level' ends p above) column = greater (slice_index ends.items column) (end_at above (column / 2))

-- the levels have room for each range up to the column
abbrev pub HasLevels : MaxTree → ℕ → Type 0
HasLevels Top columns = columns ≡ 0
HasLevels (Level' ends p above) columns = (columns ≤ length ends.items) × HasLevels above (columns / 2)

-- the end over the column, once the columns from `first` to before `last` are raised to `end`
abbrev pub raised_end : ℕ → ℕ → ℕ → ℕ → ℕ → ℕ
raised_end first last end old column = if nat_le first column && nat_lt column last then greater old end else old

-- the column is at a side of the range, and not in a pair of columns of the range
abbrev pub is_side : ℕ → ℕ → ℕ → Bool
is_side first last column = nat_lt first last && (first % 2 == 1 && column == first || last % 2 == 1 && column + 1 == last)
