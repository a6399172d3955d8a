-- Rows that are cut from one flat list.
use Rattle.std.specs.Prelude.{ℕ, ◌/◌, List, length}
use Rattle.std.specs.Simd.{first_chunks}
use Rattle.std.specs.Slice.Iter.{chunk_count}

module _ {A : Type 0} where
  -- each n items are a row, and what is left at the end is a shorter one
  abbrev pub cut_rows : ℕ → List A → List (List A)
  cut_rows n items = first_chunks n (chunk_count (length items) n) items

  -- each n items are a row, and what is left at the end is in none
  abbrev pub cut_whole_rows : ℕ → List A → List (List A)
  cut_whole_rows n items = first_chunks n (length items / n) items
