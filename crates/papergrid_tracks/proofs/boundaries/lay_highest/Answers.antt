use Rattle.std.proofs.Common.{length, get_or, arith, rules}
use Rattle.papergrid_tracks.proofs.BackLemmas.{LaidFrom-cell, above-back, room-cell}
use Rattle.papergrid_tracks.proofs.boundaries.lay_highest.Goals as goal

pub lay_back-requires-clause-room : goal.lay_back-requires-clause-room
lay_back-requires-clause-room c = (
  c.requires.room.0,
  λ i from l. c.requires.room.1.steps i (omega arith) (omega arith),
  c.loop-cell.invariant.above c.requires.room.0 c.requires.room.1 c.requires.room.2 c.loop-cell.laid (omega arith) c.loop-cell.invariant.within,
)

pub overflow_sub-boundaries : goal.overflow_sub-boundaries
overflow_sub-boundaries c = search (rules, room-cell)

pub loop-cell-preserved : goal.loop-cell-preserved
loop-cell-preserved c =
    LaidFrom-cell c.args.base.now c.args.cells.now c.requires.table c.requires.sorted c.loop-cell.cell-index c.loop-cell.laid (get_or c.args.boundaries.now (length c.args.base.now) 0)
    c.loop-cell.boundaries c.lay_back.new.boundaries c.loop-cell-test.true c.loop-cell.invariant c.lay_back.ensures.length c.lay_back.ensures.after c.lay_back.ensures.laid
    c.min.result
    (room-cell c.args.base.now c.args.cells.now c.requires.table c.requires.sorted c.loop-cell.cell-index c.loop-cell.laid (get_or c.args.boundaries.now (length c.args.base.now) 0)
    c.loop-cell.boundaries c.lay_back.new.boundaries c.loop-cell-test.true c.loop-cell.invariant c.lay_back.ensures.length c.lay_back.ensures.after c.lay_back.ensures.laid
    c.requires.room.0 c.requires.room.1 c.requires.room.2)
    c.min.ensures

pub returns-clause-above : goal.returns-clause-above
returns-clause-above c =
    above-back c.args.base.now c.args.cells.now c.loop-cell.cell-index c.loop-cell.laid (get_or c.args.boundaries.now (length c.args.base.now) 0) c.loop-cell.boundaries c.lay_back-2.new.boundaries
    (omega arith) c.loop-cell.invariant c.lay_back-2.ensures.after c.lay_back-2.ensures.laid
