use Rattle.std.proofs.Common.{arith}
use Rattle.std.proofs.lemmas.Grind.{common_steps}
use Rattle.papergrid_tracks.proofs.LoopLemmas.{all_lines-drawn}
use Rattle.papergrid_tracks.proofs.growing_cells.checked_total.Goals as goal

pub returns : goal.returns
returns c = grind (arith, all_lines-drawn, common_steps)
