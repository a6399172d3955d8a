use Rattle.std.proofs.Common.{◌∙◌, ◌≡◌, arith, sym}
use Rattle.papergrid_tracks.proofs.LowestLemmas.{AreLowest-lowest_position, lowest_position, one-lowest}
use Rattle.papergrid_tracks.proofs.HighestLemmas.{AreBoundaries-highest_position, highest_position, highest_position-above, highest_position-first, highest_position-last}
use Rattle.papergrid_tracks.proofs.laws.highest_boundaries.Goals as goal

pub returns : goal.returns
returns c = λ asks n demands lowest are table.
    let last : lowest n ≡ lowest_position asks demands n = one-lowest asks n demands lowest _ are (AreLowest-lowest_position asks demands n table) n (omega arith) in (
      highest_position asks n demands,
      AreBoundaries-highest_position asks n demands table,
      highest_position-first asks n demands table,
      highest_position-last asks n demands ∙ sym last,
      λ boundary is le i l. highest_position-above asks n demands table boundary is (omega arith) i l,
    )
