-- The table of sizes that a dimension has, and its drawing.
use Rattle.std.specs.Prelude.{◌≡◌, ◌⊎◌, ℕ, List, Option, map, option_map}
use Rattle.std.specs.List.{range_with_len}
use Rattle.papergrid_values.specs.declared.position.Position.{Position}
use Rattle.papergrid_config.specs.declared.spanned.SpannedConfig.{SpannedConfig}
use Rattle.papergrid_text.specs.HeldRows.{column_count, row_count, rows_held}
use Rattle.papergrid_text.specs.declared.vec_records.VecRecords.{VecRecords}
use Rattle.papergrid_layout.specs.Tables.{IsTotalTooLarge, TableParts}
use Rattle.papergrid_draw.specs.Drawings.{Drawing, drawn_of, layout_of}
use Rattle.papergrid_draw.specs.Faults.{IsDrawFault}
use Rattle.papergrid_draw.specs.declared.error.DrawError.{DrawError}
use Rattle.papergrid_draw.specs.declared.error.DrawError.TheVariants.{TooLarge}
use Rattle.papergrid_draw.specs.Cells.{lines_at}

-- a table of so many rows and columns, by a configuration, with these widths and heights
abbrev pub parts_of : SpannedConfig → (ℕ → ℕ) → (ℕ → ℕ) → ℕ × ℕ → TableParts
parts_of config widths heights shape = record {
  config = config;
  widths = map widths (range_with_len 0 shape.1);
  heights = map heights (range_with_len 0 shape.0);
}

-- how many rows and columns records have that hold theirs
abbrev pub shape_told : {T : Type 0} → VecRecords T → ℕ × ℕ
shape_told records = (row_count records, column_count records)

-- the cells of the rows that they hold
abbrev pub cells_held : {T : Type 0} → VecRecords T → List (List T)
cells_held records = map (λ row. row.items) (rows_held records).items

-- the texts of the colour at each position
abbrev pub texts_at : {C K : Type 0} → (K → List ℕ × List ℕ) → (C → Position → Option K) → C → Position → Option (List ℕ × List ℕ)
texts_at texts color_at colors = λ p. option_map texts (color_at colors p)

-- the drawing of a table with the cells of these rows, each with its lines, and the colours of their texts
abbrev pub drawing_of_rows : {C : Type 0} → (C → List (List ℕ × ℕ)) → TableParts → List (List C) → (Position → Option (List ℕ × List ℕ)) → Drawing
drawing_of_rows lines parts rows color = drawn_of (lines_at lines) (λ _. color) parts rows

-- the drawing of records that hold their rows, by a configuration and sizes, with the colours of the texts
abbrev pub drawing_held : {T : Type 0} → (T → List (List ℕ × ℕ)) → SpannedConfig → (ℕ → ℕ) → (ℕ → ℕ) → VecRecords T →
    (Position → Option (List ℕ × List ℕ)) → Drawing
drawing_held lines config widths heights records color =
    drawing_of_rows lines (parts_of config widths heights (shape_told records)) (cells_held records) color

-- why a table with sizes of one's own is not drawn: a total without margins is too large, else as any table
abbrev pub IsGridFault : Drawing → DrawError → Type 0
IsGridFault d e = ((e ≡ TooLarge) × IsTotalTooLarge (layout_of d)) ⊎ ((IsTotalTooLarge (layout_of d) → ⊥) × IsDrawFault d e)
