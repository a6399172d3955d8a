use Rattle.std.proofs.Common.{◌≡◌, ◌<◌, ◌^◌}
use Rattle.papergrid_layout.specs.Places.{offset, size_along}
use Rattle.papergrid_layout.proofs.ruler.Ruler.offset_from.Given as goal

abbrev pub invariant-loop-i : goal.invariant-loop-i
invariant-loop-i g l = record {
  reached : l.offset ≡ offset (size_along (g.D.Dimension.width_of l.self.dimension.now) (g.D.Dimension.height_of l.self.dimension.now) l.self.direction) ((g.S.ConfigView.grid l.self.settings.now).draws l.self.direction l.self.count) l.i;
  fits : l.offset < 2 ^ 64;
}
