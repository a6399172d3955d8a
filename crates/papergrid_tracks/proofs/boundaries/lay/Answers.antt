use Rattle.std.proofs.Common.{rules, ℕ, ◌+◌, ◌≤◌, length, get_or, arith}
use Rattle.papergrid_tracks.specs.ForProofs.Laid.{AreSteps}
use Rattle.papergrid_tracks.proofs.LaidLemmas.{steps-rise}
use Rattle.papergrid_tracks.proofs.boundaries.lay.Goals as goal

pub returns-in_err-boundaries-clause-too_large : goal.returns-in_err-boundaries-clause-too_large
returns-in_err-boundaries-clause-too_large c =
    let large : (boundary : ℕ → ℕ) → get_or c.args.boundaries.now c.args.from 0 ≤ boundary c.args.from → AreSteps c.args.base.now c.args.from (length c.args.base.now) boundary → 18446744073709551616 ≤ boundary (length c.args.base.now) =
    λ boundary start steps.
    let below : get_or c.loop-i.boundaries c.loop-i.i 0 ≤ boundary c.loop-i.i = c.loop-i.invariant.below boundary start steps in
    let next : boundary c.loop-i.i + get_or c.args.base.now c.loop-i.i 0 ≤ boundary (c.loop-i.i + 1) = steps c.loop-i.i (omega arith) (omega arith) in
    let last : boundary (c.loop-i.i + 1) ≤ boundary (length c.args.base.now) = steps-rise c.args.base.now c.args.from (length c.args.base.now) boundary steps (c.loop-i.i + 1) (length c.args.base.now) (omega arith) (omega arith) (omega arith) in
    omega (arith, c.in_err-boundaries.ensures) in
    search rules
