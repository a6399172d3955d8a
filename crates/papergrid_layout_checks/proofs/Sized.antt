-- What a caller that knows its rows reads of the answer for widths.
use Rattle.std.proofs.Common.{ℕ, List}
use Rattle.std.specs.Prelude.{Result, Ok, Err, Vec, IfOk}
use Rattle.papergrid_layout.specs.Answers.{UnlessMemory}
use Rattle.papergrid_tracks.proofs.BySizing.{AreSizes}
use Rattle.papergrid_tracks.specs.Sizings.{IsSized}
use Rattle.papergrid_tracks.specs.declared.sizing.Sizing.TheVariants.{ByShares}
use Rattle.papergrid_tracks.specs.Problem.{Problem}
use Rattle.papergrid_tracks.specs.declared.error.LayoutError.{LayoutError}

pub from_sized : {C Z : Type 0} (r : Result (Vec ℕ Z) LayoutError) (Tells : C → Type 0) (problem : C → Problem) (P : List ℕ → Type 0)
    → ((cells : C) → Tells cells → (sizes : List ℕ) → AreSizes (problem cells) sizes → P sizes)
    → UnlessMemory r ((cells : C) × Tells cells × IsSized ByShares (problem cells) r) → IfOk r (λ widths. P widths.items)
from_sized (Ok widths) Tells problem P read told = read told.0 told.1 widths.items told.2
from_sized (Err e) Tells problem P read told = tt
