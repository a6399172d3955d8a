-- The picture of a table.
use Rattle.std.specs.Prelude.{⊤, ℕ, List}
use Rattle.papergrid_config.specs.declared.setting.Setting.{Setting}
use Rattle.papergrid_tracks.specs.declared.sizing.Sizing.{Sizing}
use Rattle.papergrid_draw.specs.Drawings.{Drawing}
use Rattle.papergrid_draw.specs.Faults.{IsDrawable}
use Rattle.papergrid_draw.specs.declared.error.DrawError.TheVariants as draw_errors
use Rattle.papergrid_draw.specs.Pictures.{IsDrawingBy, IsPictureFault}
use Rattle.papergrid_builder.specs.BuilderStates.{longest}
use Rattle.papergrid_builder.specs.declared.error.BuilderError.{BuilderError}
use Rattle.papergrid_builder.specs.declared.error.BuilderError.TheVariants.{Memory, NotTiled, OutOfTable, TooLarge}

module _ (settings : List Setting) (rows : List (List (List ℕ))) (sizing : Sizing) where
  -- the drawing of the texts by the settings, with the sizes that are chosen so, which can be drawn.
  -- It has as many columns as the longest row has cells
  abbrev pub IsDrawingOf : Drawing → Type 0
  IsDrawingOf d = IsDrawingBy (longest rows) rows sizing settings d × IsDrawable d

  -- why there is none; an allocation may fail
  abbrev pub IsNotDrawn : BuilderError → Type 0
  IsNotDrawn (OutOfTable p) = IsPictureFault (longest rows) rows sizing settings (draw_errors.OutOfTable p)
  IsNotDrawn (NotTiled p) = IsPictureFault (longest rows) rows sizing settings (draw_errors.NotTiled p)
  IsNotDrawn TooLarge = IsPictureFault (longest rows) rows sizing settings draw_errors.TooLarge
  IsNotDrawn Memory = ⊤
  IsNotDrawn e = ⊥
