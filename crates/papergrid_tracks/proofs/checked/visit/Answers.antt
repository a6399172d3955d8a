use Rattle.std.proofs.Common.{◌≡◌, ℕ, ◌+◌, ◌<◌, ◌≤◌, ◌∷◌, ◌++◌, [], ◌∙◌, sym, refl, subst, subst₂, arith, length, slice_index}
use Rattle.std.proofs.lemmas.Bool.{not-true, true≢false}
use Rattle.papergrid_tracks.specs.ForProofs.Checks.{Checks, range_of, times_listed}
use Rattle.papergrid_tracks.specs.Fits.{HasRoom}
use Rattle.papergrid_values.specs.Positions.{along}
use Rattle.papergrid_tracks.specs.Ranges.{demand_of, inner_lines}
use Rattle.papergrid_tracks.proofs.CandidateLemmas.{rising-from_order}
use Rattle.papergrid_tracks.proofs.CheckLemmas.{Checks-more, Checks-fails, first_of_range, none_listed, none_room, inner_lines-span}
use Rattle.papergrid_tracks.proofs.checked.visit.Goals as goal

-- room enough in the first size of the range, and not listed
pub returns-then-has_room_alone-clause-checks : goal.returns-then-has_room_alone-clause-checks
returns-then-has_room_alone-clause-checks g c = λ demands before.
    let line : ℕ → _ = g.A.Axis.line c.args.axis.now in
    let candidate = c.args.candidate.now in
    let span_of = g.A.Axis.span_of c.args.axis.now in
    let d = demand_of candidate.direction c.args.position (span_of c.args.position) c.args.minimum in
    let alone = c.if-has_room_alone.ensures refl in
    let at : c.number_of-start.result ≡ along candidate.direction c.args.position = c.number_of-start.ensures in
    let below : along candidate.direction c.args.position < length candidate.sizes.now = omega (arith, at, alone.1) in
    let stays = c.requires.ordered.within alone.0 c.args.position below in
    let enough : c.args.minimum ≤ slice_index candidate.sizes.now (along candidate.direction c.args.position) = subst (λ s. c.args.minimum ≤ slice_index candidate.sizes.now s) at alone.2 in
    let has : HasRoom line candidate.sizes.now d = omega (arith, enough, first_of_range candidate.sizes.now d stays.0 below) in
    let none : times_listed candidate.positions.now d ≡ 0 = sym c.count_listed-times.ensures ∙ c.if-times-eq0.true in
    let few : c.args.checked.found + times_listed candidate.positions.now d ≤ length candidate.positions.now = omega (arith, none, c.requires.bounded.few) in
    let inside : along candidate.direction c.args.position + span_of c.args.position ≤ length candidate.sizes.now = stays.1 in
    let small : inner_lines line d ≤ 18446744073709551616 = omega (arith, inner_lines-span line d, inside) in
    subst (λ r. Checks line candidate.sizes.now candidate.positions.now candidate.direction span_of r (demands ++ d ∷ []))
    (none_listed c.args.checked c.args.minimum (inner_lines line d) (times_listed candidate.positions.now d) c.if-checked.true none)
    (Checks-more line candidate.sizes.now candidate.positions.now candidate.direction span_of c.args.checked demands d before refl stays.0 c.if-checked.true inside has few c.requires.minimum small)

pub returns-in-None-clause-checks : goal.returns-in-None-clause-checks
returns-in-None-clause-checks g c = λ demands before.
    let none = subst₂ (λ s n. s + n ≤ length c.args.candidate.now.sizes.now → HasRoom (g.A.Axis.line c.args.axis.now) c.args.candidate.now.sizes.now (range_of s n c.args.minimum) → ⊥) c.number_of-start.ensures c.span-span.ensures.value c.in-None.ensures.none in
    let one : 1 ≤ g.A.Axis.span_of c.args.axis.now c.args.position = omega (arith, c.span-span.ensures.value, c.span-span.ensures.positive) in
    rw c.failed-in-None.ensures (Checks-fails _ _ _ _ _ c.args.checked demands _ before refl one (λ so. none_room _ _ _ _ _ c.args.checked demands _ before refl one none))

-- after a cell that fails nothing changes
pub returns-then-not-checked-clause-checks : goal.returns-then-not-checked-clause-checks
returns-then-not-checked-clause-checks g c = λ demands before.
    let one : 1 ≤ g.A.Axis.span_of c.args.axis.now c.args.position = omega (arith, c.span-span.ensures.value, c.span-span.ensures.positive) in
    rw c.failed.ensures (Checks-fails _ _ _ _ _ c.args.checked demands _ before refl one (λ so. absurd (true≢false (sym so ∙ not-true c.args.checked.holds c.if-not-checked.true))))

pub count_listed-times-requires : goal.count_listed-times-requires
count_listed-times-requires g c = λ t. rising-from_order c.args.candidate.now.direction (g.A.Axis.span_of c.args.axis.now) c.args.candidate.now.positions.now (c.requires.ordered.ordered t)
