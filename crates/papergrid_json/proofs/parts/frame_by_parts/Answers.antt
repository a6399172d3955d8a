use Rattle.papergrid_json.proofs.PartLemmas.{frame_told}
use Rattle.papergrid_json.proofs.parts.frame_by_parts.Goals as goal

pub returns : goal.returns
returns g c = frame_told _ _ _ _ _ _ c.in_ok-at_top.ensures c.in_ok-at_bottom.ensures c.in_ok-at_sides.ensures c.in_ok-within.ensures
