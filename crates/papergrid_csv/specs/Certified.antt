-- The sizes of the table of an input, and the cells that certify them.
use Rattle.std.specs.Prelude.{◌≡◌, ◌≢◌, ℕ, Bool, false, true, List, []}
use Rattle.papergrid_values.specs.declared.direction.Direction.TheVariants.{Columns, Rows}
use Rattle.papergrid_values.specs.declared.per_direction.PerDirection.{PerDirection}
use Rattle.papergrid_tracks.specs.declared.solution.Solved.{Solved}
use Rattle.papergrid_config.specs.Grids.{spanned_grid}
use Rattle.papergrid_walk.specs.Measures.{text_measure}
use Rattle.papergrid_layout.specs.Answers.{HoldAlong}
use Rattle.papergrid_layout.specs.Certificates.{IsCertifiedBy}
use Rattle.papergrid_layout.specs.Places.{total_along}
use Rattle.papergrid_draw.specs.Drawings.{Drawing, layout_of}
use Rattle.papergrid_csv.specs.Pictures.{IsCsvDrawing, IsCsvRun}
use Rattle.papergrid_csv.specs.declared.request.Request.{Request}
use Rattle.papergrid_csv.specs.declared.run.CsvEnd.{CsvEnd}
use Rattle.papergrid_csv.specs.declared.run.CsvEnd.TheVariants.{Drawn, TooWide}

-- the drawing of an input, as a request has it, has these sizes and totals, and these cells certify them
pub record IsCsvCertified (request : Request) (input : List ℕ) (found : PerDirection Solved) : Type 0 where
  pub d : Drawing
  pub drawing : IsCsvDrawing request input d
  pub widths : drawing.drawn.widths ≡ found.columns.sizes.items
  pub heights : drawing.drawn.heights ≡ found.rows.sizes.items
  pub width : found.columns.total ≡ total_along (layout_of d) Columns
  pub height : found.rows.total ≡ total_along (layout_of d) Rows
  pub certified : HoldAlong (spanned_grid drawing.config) text_measure drawing.table.columns drawing.table.shown (IsCertifiedBy request.sizing) found.columns found.rows

-- at this end of a run the table has sizes, and its spans tile it
abbrev pub has_sizes : CsvEnd → Bool
has_sizes Drawn = true
has_sizes (TooWide width) = true
has_sizes end = false

-- a run ends otherwise, and writes nothing
abbrev pub HasNoSizes : (CsvEnd → List ℕ → Type 0) → Type 0
HasNoSizes IsRun = (end : CsvEnd) × (has_sizes end ≡ false) × IsRun end []

-- the picture of an input is written
abbrev pub HasPicture : Request → List ℕ → Type 0
HasPicture request input = (output : List ℕ) × IsCsvRun request input Drawn output

-- nothing is
abbrev pub HasNoPicture : Request → List ℕ → Type 0
HasNoPicture request input = (end : CsvEnd) × (end ≢ Drawn) × IsCsvRun request input end []
