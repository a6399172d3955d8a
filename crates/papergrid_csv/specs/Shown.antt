-- The rows as they are drawn.
use Rattle.std.specs.Prelude.{◌≡◌, ℕ, List, Option, None, Some}
use Rattle.std.specs.List.{AllZip}
use Rattle.papergrid_csv.specs.Cutting.{IsCut}

-- the fields of rows as they are drawn: each one cut to so many columns, or as it is
abbrev pub AreCut : Option ℕ → List (List (List ℕ)) → List (List (List ℕ)) → Type 0
AreCut None rows shown = shown ≡ rows
AreCut (Some columns) rows shown = AllZip (AllZip (IsCut columns)) rows shown
