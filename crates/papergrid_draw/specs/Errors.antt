-- Why a table is not drawn that has no sizes.
use Rattle.papergrid_tracks.specs.declared.error.LayoutError.{LayoutError}
use Rattle.papergrid_tracks.specs.declared.error.LayoutError.TheVariants as layout_error
use Rattle.papergrid_draw.specs.declared.error.DrawError.{DrawError}
use Rattle.papergrid_draw.specs.declared.error.DrawError.TheVariants.{Memory, OutOfTable, TooLarge}

-- the error of a layout as one of a drawing
abbrev pub draw_error_of : LayoutError → DrawError
draw_error_of (layout_error.OutOfTable p) = OutOfTable p
draw_error_of layout_error.TooLarge = TooLarge
draw_error_of (layout_error.Memory e) = Memory e
