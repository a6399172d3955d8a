-- How it is decided whether ranges are nested or disjoint: for each track the last cell, of those that are taken,
-- whose range holds it.
use Rattle.std.specs.Prelude.{◌≡◌, ◌≢◌, ◌<◌, ℕ, ◌==◌, false, if◌then◌else◌, cond, ◌⊎◌, List, [], ◌∷◌, length, ⊤, Option, Some, None, slice_index, slice_index_or}
use Rattle.std.specs.List.{AllByRecursion, list_any}
use Rattle.std.specs.Option.{option_or}
use Rattle.papergrid_tracks.specs.declared.demand.Demand.{Demand}
use Rattle.papergrid_tracks.specs.Ranges.{holds, AreDisjoint, LiesIn}
use Rattle.papergrid_tracks.specs.Certificates.{exact_single}
use Rattle.papergrid_tracks.specs.ForProofs.Demands.{no_demand}

-- a cell that is taken before another is disjoint from it or lies in its range
abbrev pub Precedes : Demand → Demand → Type 0
Precedes earlier later = AreDisjoint earlier later ⊎ LiesIn earlier later

-- each cell precedes all later ones: a laminar family, the inner ranges first
abbrev pub IsLaminarInOrder : List Demand → Type 0
IsLaminarInOrder [] = ⊤
IsLaminarInOrder (d ∷ rest) = AllByRecursion (Precedes d) rest × IsLaminarInOrder rest

-- the last of the cells whose range holds i
abbrev pub last_holding : List Demand → ℕ → Option Demand
last_holding [] i = None
last_holding (d ∷ rest) i = option_or (last_holding rest i) (cond (holds d i) (Some d) None)

-- the cell of the certificate at i: the last growing cell there, where its range starts there, or, where there is none,
-- the single one
abbrev pub slot_of : Option Demand → Option Demand → ℕ → ℕ → Option Demand
slot_of (Some d) first size i = if d.start == i then Some d else None
slot_of None first size i = if size == 0 then None else first

-- the cell of the certificate at i, by lists of the last growing cells and of the single ones
abbrev pub certificate_slot : List (Option Demand) → List Demand → List ℕ → ℕ → Option Demand
certificate_slot last single_span sizes i = slot_of (slice_index_or last i None) (Some (slice_index_or single_span i no_demand)) (slice_index sizes i) i

-- where no growing cell's range holds i and its size is above 0, the first cell that covers i alone and has its size as its
-- minimum size is kept at i
abbrev pub AreExact : List Demand → List Demand → List ℕ → List Demand → Type 0
AreExact demands growing_cells sizes single_span =
    (i : ℕ) → i < length sizes → list_any (λ d. holds d i) growing_cells ≡ false → slice_index sizes i ≢ 0 →
    exact_single demands sizes i ≡ Some (slice_index_or single_span i no_demand)
