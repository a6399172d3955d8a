-- The greatest minimum size of some cells, and the base sizes.
use Rattle.std.proofs.Common.{◌≡◌, ℕ, ◌<◌, ◌≤◌, max, Bool, true, ◌&&◌, ◌==◌, inl, inr, List, [], ◌∷◌, length, get_or, refl, sym, ◌∙◌, arith, eqb, eqb-true, eq-eqb}
use Rattle.std.specs.Prelude.{Contains}
use Rattle.std.specs.List.{AllByRecursion}
use Rattle.std.proofs.lemmas.Bool.{cases_Bool, and_from, and_parts, true≢false}
use Rattle.std.proofs.lemmas.List.Elements.{All-from_recursion, All-contains}
use Rattle.std.proofs.lemmas.List.FromFn.{get_or-map-range_with_len, length-map-range_with_len}
use Rattle.papergrid_tracks.specs.declared.demand.Demand.{Demand}
use Rattle.papergrid_tracks.specs.Ranges.{IsInTable}
use Rattle.papergrid_tracks.specs.Fits.{greatest_minimum, range_sum, HasRoom}
use Rattle.papergrid_tracks.specs.Sizes.{base_size, base_sizes}
use Rattle.papergrid_tracks.proofs.Upto.{upto, range_sum-within}

-- each cell that passes needs at most the greatest minimum size
pub greatest_minimum-above : (test : Demand → Bool) (ds : List Demand) (m : ℕ) → greatest_minimum test ds ≤ m → AllByRecursion (λ d. test d ≡ true → d.minimum ≤ m) ds
greatest_minimum-above test [] m le = tt
greatest_minimum-above test (d ∷ ds) m le = elim (cases_Bool (test d)) [
  | inl t ↦
      let le' : max d.minimum (greatest_minimum test ds) ≤ m = rw t at le in
      ((λ t'. omega arith), greatest_minimum-above test ds m (omega arith))
  | inr f ↦
      ((λ t'. absurd (true≢false (sym t' ∙ f))), greatest_minimum-above test ds m (rw f at le))
]

pub greatest_minimum-below : (test : Demand → Bool) (ds : List Demand) (m : ℕ) → AllByRecursion (λ d. test d ≡ true → d.minimum ≤ m) ds → greatest_minimum test ds ≤ m
greatest_minimum-below test [] m each = omega arith
greatest_minimum-below test (d ∷ ds) m each = grind (arith, cases_Bool, greatest_minimum-below test ds m each.1)

-- a cell that passes needs at most the greatest minimum size
pub minimum-below_greatest : (test : Demand → Bool) (ds : List Demand) (d : Demand) → Contains ds d → test d ≡ true → d.minimum ≤ greatest_minimum test ds
minimum-below_greatest test ds d m t =
    All-contains (λ d. test d ≡ true → d.minimum ≤ greatest_minimum test ds) ds d
    (All-from_recursion (λ d. test d ≡ true → d.minimum ≤ greatest_minimum test ds) ds (greatest_minimum-above test ds (greatest_minimum test ds) (omega arith))) m t

-- each base size is at most the top minimum size, as the cells that cover i alone hold i
pub holds_alone : (d : Demand) (i : ℕ) → (d.span == 1 && d.start == i) ≡ true → (d.span ≡ 1) × (d.start ≡ i)
holds_alone d i h = grind (arith, and_parts, eqb-true)

pub get_or-base_sizes : (n : ℕ) (demands : List Demand) (i : ℕ) → i < n → get_or (base_sizes n demands) i 0 ≡ base_size demands i
get_or-base_sizes n demands i l = get_or-map-range_with_len (base_size demands) 0 n i i 0 l (omega arith)

pub length-base_sizes : (n : ℕ) (demands : List Demand) → length (base_sizes n demands) ≡ n
length-base_sizes n demands = length-map-range_with_len (base_size demands) 0 n

-- a range of one number sums to its size
pub range_sum-one : (sizes : List ℕ) (d : Demand) → d.span ≡ 1 → range_sum sizes d ≡ get_or sizes d.start 0
range_sum-one sizes d e = grind (arith, upto, range_sum-within)

-- the base sizes have room for each cell that covers one track alone
pub HasRoom-base : (line : ℕ → Bool) (n : ℕ) (demands : List Demand) (d : Demand) → IsInTable n d → Contains demands d → d.span ≡ 1 →
    HasRoom line (base_sizes n demands) d
HasRoom-base line n demands d table m one =
    let test : (d.span == 1 && d.start == d.start) ≡ true = and_from (eqb d.span 1) (eqb d.start d.start) (eq-eqb d.span 1 one) (eq-eqb d.start d.start refl) in
    let a : d.minimum ≤ base_size demands d.start = minimum-below_greatest (λ e. e.span == 1 && e.start == d.start) demands d m test in
    let c : range_sum (base_sizes n demands) d ≡ get_or (base_sizes n demands) d.start 0 = range_sum-one (base_sizes n demands) d one in
    omega (arith, get_or-base_sizes n demands d.start (omega (arith, table.ends_within)))
