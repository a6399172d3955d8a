-- The deficit of a cell fits in each size of its range.
use Rattle.std.proofs.Common.{◌≡◌, ℕ, ◌+◌, ◌-◌, ◌<◌, ◌≤◌, Bool, List, get_or, ap, arith, rules}
use Rattle.papergrid_tracks.specs.declared.demand.Demand.{Demand}
use Rattle.papergrid_tracks.specs.Fits.{range_sum}
use Rattle.papergrid_tracks.specs.Ranges.{end_of}
use Rattle.papergrid_tracks.specs.Sizes.{grown_sizes, deficit}
use Rattle.std.proofs.lemmas.Grind.{same_number_lists}
use Rattle.papergrid_tracks.proofs.FitBound.{grown_same, length-grown}
use Rattle.papergrid_tracks.proofs.Upto.{range_sum-within, upto-point, within}

size-below_sum : (sizes : List ℕ) (d : Demand) (i : ℕ) → d.start ≤ i → i < end_of d → get_or sizes i 0 ≤ range_sum sizes d
size-below_sum sizes d i from before =
    let a : range_sum sizes d ≡ within (λ i. get_or sizes i 0) d = range_sum-within sizes d in
    let b : get_or sizes (d.start + (i - d.start)) 0 ≤ within (λ i. get_or sizes i 0) d = upto-point (λ k. get_or sizes (d.start + k) 0) d.span (i - d.start) (omega arith) in
    let e : get_or sizes (d.start + (i - d.start)) 0 ≡ get_or sizes i 0 = ap (λ i. get_or sizes i 0) (let s : d.start + (i - d.start) ≡ i = omega arith in s) in
    omega arith

pub deficit-fits : (line : ℕ → Bool) (sizes : List ℕ) (d : Demand) (i limit : ℕ) → d.start ≤ i → i < end_of d → 0 < deficit line sizes d → d.minimum < limit → get_or sizes i 0 + deficit line sizes d < limit
deficit-fits line sizes d i limit from before grows minimum = grind (arith, size-below_sum)

-- a cell without a deficit leaves the sizes as they were
pub grown-none : (line : ℕ → Bool) (sizes : List ℕ) (d : Demand) → 1 ≤ d.span → deficit line sizes d ≡ 0 → sizes ≡ grown_sizes line sizes d
grown-none line sizes d one none = search (rules, same_number_lists, length-grown, grown_same)
