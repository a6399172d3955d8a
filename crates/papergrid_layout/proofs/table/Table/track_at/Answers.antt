use Rattle.std.proofs.Common.{arith}
use Rattle.papergrid_layout.specs.Places.{track_count, track_line, track_size}
use Rattle.papergrid_layout.specs.Tables.{view_of}
use Rattle.papergrid_layout.proofs.MarkLemmas.{none-in-total}
use Rattle.papergrid_layout.proofs.table.Table.track_at.Goals as goal

pub returns-then-point-total : goal.returns-then-point-total
returns-then-point-total c =
    let table = view_of c.args.self.now in
    none-in-total (track_size table c.args.direction) (track_line table c.args.direction) (track_count table c.args.direction) c.args.point (omega (arith, c.marks_along-total.ensures.total, c.if-point-total.true))
