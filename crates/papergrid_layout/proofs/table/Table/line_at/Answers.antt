use Rattle.papergrid_layout.specs.Places.{track_count, track_line, track_size}
use Rattle.papergrid_layout.specs.Tables.{view_of}
use Rattle.papergrid_layout.proofs.TableLemmas.{line-at}
use Rattle.papergrid_layout.proofs.table.Table.line_at.Goals as goal

pub overflow_sub-result : goal.overflow_sub-result
overflow_sub-result c =
    let table = view_of c.args.self.now in
    (line-at (track_size table c.args.direction) (track_line table c.args.direction) (track_count table c.args.direction) c.marks_along-total.result.0.now c.args.index c.begin.result
    c.marks_along-total.result.1 c.marks_along-total.ensures.marks c.begin.ensures c.marks_along-total.ensures.total c.if-not-has_line.ensures).0

pub returns : goal.returns
returns c =
    let table = view_of c.args.self.now in
    (line-at (track_size table c.args.direction) (track_line table c.args.direction) (track_count table c.args.direction) c.marks_along-total.result.0.now c.args.index c.begin.result
    c.marks_along-total.result.1 c.marks_along-total.ensures.marks c.begin.ensures c.marks_along-total.ensures.total c.if-not-has_line.ensures).1
