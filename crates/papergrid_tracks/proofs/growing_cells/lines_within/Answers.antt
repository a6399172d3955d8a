use Rattle.std.proofs.Common.{◌∙◌}
use Rattle.papergrid_tracks.proofs.LoopLemmas.{inner_lines-slice}
use Rattle.papergrid_tracks.proofs.growing_cells.lines_within.Goals as goal

pub returns : goal.returns
returns c = c.count_drawn.ensures ∙ inner_lines-slice c.args.lines.now c.args.demand c.requires
