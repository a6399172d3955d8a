use Rattle.std.proofs.Common.{◌≡◌, ◌++◌, ◌-◌, ◌<◌, length, get_or, map}
use Rattle.papergrid_tracks.specs.Ranges.{position_of}
use Rattle.papergrid_tracks.specs.ForProofs.Followed.{followed_cells, kept_longer, kept_single}
use Rattle.papergrid_tracks.proofs.critical_path.follow.Given as goal

abbrev pub invariant-loop : goal.invariant-loop
invariant-loop l = record {
  number : l.number < length l.lowest_position;
  positions : l.positions.items ++ map position_of (followed_cells (λ i. get_or l.lowest_position i 0) (kept_single l.single_span) (kept_longer l.tight_cells) (length l.lowest_position - l.counter) l.number)
      ≡ map position_of (followed_cells (λ i. get_or l.lowest_position i 0) (kept_single l.single_span) (kept_longer l.tight_cells) (length l.lowest_position - 1) (length l.lowest_position - 1));
}
