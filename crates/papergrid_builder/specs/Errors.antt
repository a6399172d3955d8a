-- The errors of layouts as those of a builder.
use Rattle.papergrid_tracks.specs.declared.error.LayoutError.{LayoutError}
use Rattle.papergrid_tracks.specs.declared.error.LayoutError.TheVariants as layout_errors
use Rattle.papergrid_builder.specs.declared.error.BuilderError.{BuilderError}
use Rattle.papergrid_builder.specs.declared.error.BuilderError.TheVariants.{Memory, OutOfTable, TooLarge}

-- an error of a layout as one of a builder
abbrev pub layout_refusal : LayoutError → BuilderError
layout_refusal (layout_errors.OutOfTable p) = OutOfTable p
layout_refusal layout_errors.TooLarge = TooLarge
layout_refusal (layout_errors.Memory e) = Memory
