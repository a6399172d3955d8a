use Rattle.std.proofs.Common.{rules, ℕ, ◌≤◌, length, arith}
use Rattle.papergrid_tracks.specs.ForProofs.Laid.{AreLaid}
use Rattle.papergrid_tracks.proofs.LaidLemmas.{LaidTo-cell, below-whole, past-cell}
use Rattle.papergrid_tracks.proofs.boundaries.lay_lowest.Goals as goal

pub returns-in_err-checked_add-clause-too_large : goal.returns-in_err-checked_add-clause-too_large
returns-in_err-checked_add-clause-too_large c =
    let large : (boundary : ℕ → ℕ) → AreLaid c.args.base.now c.args.cells.now boundary → 18446744073709551616 ≤ boundary (length c.args.base.now) =
    past-cell c.args.base.now c.args.cells.now c.requires.table c.requires.sorted c.loop-cell.cell-index c.loop-cell.laid c.loop-cell.boundaries c.lay.new.boundaries c.loop-cell-test.true
    c.loop-cell.invariant c.in_ok-lay.ensures.length c.in_ok-lay.ensures.before c.in_ok-lay.ensures.laid (omega (arith, c.in_err-checked_add.ensures)) in
    search rules

pub loop-cell-preserved : goal.loop-cell-preserved
loop-cell-preserved c =
    LaidTo-cell c.args.base.now c.args.cells.now c.requires.table c.requires.sorted c.loop-cell.cell-index c.loop-cell.laid c.loop-cell.boundaries c.lay.new.boundaries c.loop-cell-test.true
    c.loop-cell.invariant c.in_ok-lay.ensures.length c.in_ok-lay.ensures.before c.in_ok-lay.ensures.laid c.max.result (omega (arith, c.in_ok-checked_add.ensures, c.max.ensures))

pub returns-in_err-lay-2-clause-too_large : goal.returns-in_err-lay-2-clause-too_large
returns-in_err-lay-2-clause-too_large c = grind arith

pub returns-clause-below : goal.returns-clause-below
returns-clause-below c =
    below-whole c.args.base.now c.args.cells.now c.loop-cell.cell-index c.loop-cell.laid c.loop-cell.boundaries c.lay-2.new.boundaries (omega arith) c.loop-cell.invariant
    c.in_ok-lay-2.ensures.before c.in_ok-lay-2.ensures.laid
