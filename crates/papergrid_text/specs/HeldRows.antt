-- What is shown of a `VecRecords`.
use Rattle.std.specs.Prelude.{ℕ, Vec}
use Rattle.std.specs.declared.alloc.Global.{Global}
use Rattle.papergrid_text.specs.declared.vec_records.VecRecords.{VecRecords}

module _ {T : Type 0} where
  -- records that hold these rows, and tell these counts
  abbrev pub vec_records_of : Vec (Vec T Global) Global → ℕ → ℕ → VecRecords T
  vec_records_of rows row_count column_count = record { rows = rows; count_rows = row_count; count_cols = column_count }

  -- the rows
  abbrev pub rows_held : VecRecords T → Vec (Vec T Global) Global
  rows_held r = r.rows

  -- the number of rows that is given
  abbrev pub row_count : VecRecords T → ℕ
  row_count r = r.count_rows

  -- the number of columns that is given
  abbrev pub column_count : VecRecords T → ℕ
  column_count r = r.count_cols
