use Rattle.std.proofs.Common.{◌≡◌, ℕ, ◌+◌, ◌<◌, get_or, length}
use Rattle.papergrid_layout.specs.Places.{offset, size_along}
use Rattle.papergrid_layout.proofs.ruler.Ruler.marks.Given as goal

abbrev pub invariant-loop-i : goal.invariant-loop-i
invariant-loop-i g l =
    let size = size_along (g.D.Dimension.width_of l.self.dimension.now) (g.D.Dimension.height_of l.self.dimension.now) l.self.direction in
    let line = (g.S.ConfigView.grid l.self.settings.now).draws l.self.direction l.self.count in
    record {
      reached : l.begin ≡ offset size line l.i;
      each_begin : length l.begins.items ≡ l.i;
      each_end : length l.ends.items ≡ l.i;
      begins : (k : ℕ) → k < l.i → get_or l.begins.items k 0 ≡ offset size line k;
      ends : (k : ℕ) → k < l.i → get_or l.ends.items k 0 ≡ offset size line k + size k;
    }
