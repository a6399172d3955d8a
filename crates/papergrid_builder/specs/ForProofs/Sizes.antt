-- Why rows of texts have no sizes by a configuration, or no picture.
use Rattle.std.specs.Prelude.{⊤, ℕ, List}
use Rattle.papergrid_config.specs.declared.spanned.SpannedConfig.{SpannedConfig}
use Rattle.papergrid_tracks.specs.declared.sizing.Sizing.{Sizing}
use Rattle.papergrid_tracks.specs.declared.error.LayoutError.TheVariants as layout_errors
use Rattle.papergrid_draw.specs.declared.error.DrawError.{DrawError}
use Rattle.papergrid_draw.specs.declared.error.DrawError.TheVariants as draw_errors
use Rattle.papergrid_walk.specs.Measures.{text_measure}
use Rattle.papergrid_draw.specs.Pictures.{IsFaultWith}
use Rattle.papergrid_builder.specs.BuilderStates.{longest}
use Rattle.papergrid_builder.specs.declared.error.BuilderError.{BuilderError}
use Rattle.papergrid_builder.specs.declared.error.BuilderError.TheVariants.{Memory, NotTiled, OutOfTable, TooLarge}
use Rattle.papergrid_layout.specs.Answers.{IsBothRefused}
use Rattle.papergrid_config.specs.Grids.{spanned_grid}

-- why a table is not drawn, as an error of a builder. No cell of it lacks room
abbrev pub draw_refusal : DrawError → BuilderError
draw_refusal (draw_errors.OutOfTable p) = OutOfTable p
draw_refusal (draw_errors.NotTiled p) = NotTiled p
draw_refusal draw_errors.TooLarge = TooLarge
draw_refusal (draw_errors.NoRoom p) = Memory
draw_refusal (draw_errors.Memory e) = Memory
draw_refusal draw_errors.Write = Memory

module _ (config : SpannedConfig) (rows : List (List (List ℕ))) (sizing : Sizing) where
  -- why there are none; an allocation may fail
  abbrev pub IsUnfound : BuilderError → Type 0
  IsUnfound (OutOfTable p) = IsBothRefused (spanned_grid config) text_measure (longest rows) rows sizing (layout_errors.OutOfTable p)
  IsUnfound TooLarge = IsBothRefused (spanned_grid config) text_measure (longest rows) rows sizing layout_errors.TooLarge
  IsUnfound Memory = ⊤
  IsUnfound e = ⊥

  -- why there is no picture; an allocation may fail
  abbrev pub IsPictureRefused : BuilderError → Type 0
  IsPictureRefused (OutOfTable p) = IsFaultWith (longest rows) rows sizing config (draw_errors.OutOfTable p)
  IsPictureRefused (NotTiled p) = IsFaultWith (longest rows) rows sizing config (draw_errors.NotTiled p)
  IsPictureRefused TooLarge = IsFaultWith (longest rows) rows sizing config draw_errors.TooLarge
  IsPictureRefused Memory = ⊤
  IsPictureRefused e = ⊥
