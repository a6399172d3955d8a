use Rattle.std.proofs.Common.{◌≡◌, ℕ, ◌-◌, ◌<◌, length, get_or, drop, None}
use Rattle.std.specs.Prelude.{find}
use Rattle.papergrid_tracks.specs.ForProofs.Settled.{line_at}
use Rattle.papergrid_tracks.specs.TrackBoundaries.{net_minimum}
use Rattle.papergrid_tracks.specs.CriticalPath.{is_tight}
use Rattle.papergrid_tracks.proofs.critical_path.mark_tight_cells.Given as goal

abbrev pub invariant-loop-passed : goal.invariant-loop-passed
invariant-loop-passed l = record {
  same_length : length l.tight_cells ≡ length l.fn.tight_cells;
  first : (i : ℕ) → i < length l.tight_cells → get_or l.tight_cells i None ≡ find (is_tight (net_minimum (line_at l.lines)) (λ i. get_or l.lowest_position i 0) i) (drop (length l.cells - l.passed) l.cells);
}
