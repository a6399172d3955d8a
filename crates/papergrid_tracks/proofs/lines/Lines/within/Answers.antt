use Rattle.std.proofs.Common.{◌≡◌, ℕ, ◌+◌, ◌-◌, Bool, List, length, get_or, take, drop, ap, arith}
use Rattle.std.specs.Prelude.{count_by}
use Rattle.std.proofs.lemmas.List.{drop-take, get_or_default, take-take}
use Rattle.std.proofs.lemmas.List.Sums.{sum_by-take-drop}
use Rattle.papergrid_tracks.specs.declared.demand.Demand.{Demand}
use Rattle.papergrid_tracks.specs.ForProofs.Settled.{line_at}
use Rattle.papergrid_tracks.specs.Ranges.{IsInTable, end_of, inner_lines}
use Rattle.papergrid_tracks.proofs.LoopLemmas.{drawn_from}
use Rattle.papergrid_tracks.specs.ForProofs.Counts.{AreCountsBefore}
use Rattle.papergrid_tracks.proofs.lines.Lines.within.Goals as goal

-- what is counted up to the end of a part of the list, and what up to its beginning and in it
counted-part : (xs : List Bool) (a m : ℕ) → count_by (λ x. x) (take (a + m) xs) ≡ count_by (λ x. x) (take a xs) + count_by (λ x. x) (take m (drop a xs))
counted-part xs a m =
    let whole : count_by (λ x. x) (take a (take (a + m) xs)) + count_by (λ x. x) (drop a (take (a + m) xs)) ≡ count_by (λ x. x) (take (a + m) xs) =
    sum_by-take-drop _ (take (a + m) xs) a in
    let front : count_by (λ x. x) (take a (take (a + m) xs)) ≡ count_by (λ x. x) (take a xs) = ap (count_by (λ x. x)) (take-take a (a + m) xs (omega arith)) in
    let part : count_by (λ x. x) (drop a (take (a + m) xs)) ≡ count_by (λ x. x) (take m (drop a xs)) = ap (count_by (λ x. x)) (drop-take a m xs) in
    omega arith

-- the lines inside of a range, by the counts at its ends
counted-within : (drawn : List Bool) (counts : List ℕ) (d : Demand) → AreCountsBefore drawn counts → IsInTable (length drawn) d →
    get_or counts (end_of d) 0 ≡ get_or counts (d.start + 1) 0 + inner_lines (line_at drawn) d
counted-within drawn counts d are inside =
    let same : count_by (λ x. x) (take (end_of d) drawn) ≡ count_by (λ x. x) (take (d.start + 1 + (d.span - 1)) drawn) =
    ap (λ k. count_by (λ x. x) (take k drawn)) (let e : end_of d ≡ d.start + 1 + (d.span - 1) = omega arith in e) in
    let parts : count_by (λ x. x) (take (d.start + 1 + (d.span - 1)) drawn) ≡ count_by (λ x. x) (take (d.start + 1) drawn) + count_by (λ x. x) (take (d.span - 1) (drop (d.start + 1) drawn)) =
    counted-part drawn (d.start + 1) (d.span - 1) in
    let part : count_by (λ x. x) (take (d.span - 1) (drop (d.start + 1) drawn)) ≡ inner_lines (line_at drawn) d = drawn_from drawn (d.start + 1) (d.span - 1) (omega arith) in
    omega arith

-- the same of the lines as they are seen, by what is read at the ends
read-within : (drawn lines : List Bool) (counts : List ℕ) (d : Demand) (last first : ℕ) → drawn ≡ lines → AreCountsBefore drawn counts → IsInTable (length lines) d →
    last ≡ get_or counts (end_of d) last → first ≡ get_or counts (d.start + 1) first → last ≡ first + inner_lines (line_at lines) d
read-within drawn lines counts d last first kept are inside read_last read_first = grind (arith, get_or_default, counted-within)

pub overflow_sub-result : goal.overflow_sub-result
overflow_sub-result c =
    let read = read-within c.self.inside.drawn.items _ c.self.inside.counts.items c.args.demand c.index.result.now c.index-2.result.now c.self.view_is c.self.invariant c.requires c.index.ensures c.index-2.ensures in
    omega (arith, read)

pub returns : goal.returns
returns c = grind (arith, read-within)
