-- What a caller that holds its rows reads of an answer: the cells told are seen through a view, and are those of the rows.
use Rattle.std.proofs.Common.{◌≡◌, ℕ, List, map, sym, subst}
use Rattle.std.specs.Prelude.{Err, IfOk, IsErrAnd, MatchResult, Ok, Result}
use Rattle.papergrid_values.specs.declared.direction.Direction.{Direction}
use Rattle.papergrid_tracks.proofs.BySizing.{AreLeastSizes}
use Rattle.papergrid_tracks.specs.declared.error.LayoutError.{LayoutError}
use Rattle.papergrid_tracks.specs.declared.error.LayoutError.TheVariants.{OutOfTable, TooLarge, Memory}
use Rattle.papergrid_tracks.specs.Sizings.{Answers, AreTooLargeBy, IsRefused}
use Rattle.papergrid_tracks.specs.Problem.{Problem}
use Rattle.papergrid_config.specs.Grids.{spanned_grid}
use Rattle.papergrid_config.specs.declared.spanned.SpannedConfig.{SpannedConfig}
use Rattle.papergrid_walk.specs.Cells.{problem_of}
use Rattle.papergrid_maps.specs.Grids.{Grid}
use Rattle.papergrid_layout.specs.Answers.{HoldAlong, IsBothRefused, UnlessMemory, UnlessMemoryError}
use Rattle.papergrid_layout.specs.Tables.{IsTableOf, TableParts}
use Rattle.papergrid_tracks.specs.declared.sizing.Sizing.{Sizing}
use Rattle.papergrid_tracks.specs.declared.sizing.Sizing.TheVariants.{Least}
use Rattle.papergrid_layout.specs.declared.grid_dimension.GridDimension.{GridDimension}
use Rattle.papergrid_layout.proofs.Told.{problem_told}
use Rattle.papergrid_layout.proofs.Told as seen
use Rattle.papergrid_config.specs.declared.setting.Setting.{Setting}
use Rattle.papergrid_config.specs.Grids.{IsGridOf}
use Rattle.papergrid.specs.Layouts.{IsLaidOut}

module _ {A B : Type 0} (grid : Grid) (v : A → B) (f : B → ℕ × ℕ) (columns : ℕ) (rows : List (List B)) where
  module _ (cells : List (List A)) (same : map (map v) cells ≡ rows) where
    pub one_told : (direction : Direction) → problem_of grid (λ x. f (v x)) columns cells direction ≡ problem_of grid f columns rows direction
    one_told direction = problem_told grid v f cells rows same direction columns

    -- what holds along both directions of the cells told holds of the rows
    pub both_told : {V : Type 0} (holds : Problem → V → Type 0) (across down : V) → HoldAlong grid (λ x. f (v x)) columns cells holds across down → HoldAlong grid f columns rows holds across down
    both_told holds across down both = seen.both_told grid v f cells rows same columns holds across down both

  -- a refusal along both directions
  pub both_refused : (sizing : Sizing) (e : LayoutError)
      → UnlessMemoryError e ((cells : List (List A)) × (map (map v) cells ≡ rows) × IsBothRefused grid (λ x. f (v x)) columns cells sizing e) → IsBothRefused grid f columns rows sizing e
  both_refused sizing (OutOfTable place) is = seen.both_refused_told grid v f is.0 rows is.1 columns sizing (OutOfTable place) is.2
  both_refused sizing TooLarge is = seen.both_refused_told grid v f is.0 rows is.1 columns sizing TooLarge is.2
  both_refused sizing (Memory e) is = tt

  -- the same, as a `?` hands it on
  pub refused_on : {V : Type 0} (sizing : Sizing) (holds : V → Type 0) (result : Result V LayoutError) (e : LayoutError) → IsErrAnd result (λ error. error ≡ e)
      → UnlessMemoryError e ((cells : List (List A)) × (map (map v) cells ≡ rows) × IsBothRefused grid (λ x. f (v x)) columns cells sizing e)
      → MatchResult result holds (IsBothRefused grid f columns rows sizing)
  refused_on sizing holds (Ok found) e is told = absurd is
  refused_on sizing holds (Err error) e is told = subst (IsBothRefused grid f columns rows sizing) (sym is) (both_refused sizing e told)

  -- the sizes along both directions, as a dimension hands them out
  pub sizes_told : (holds : Problem → List ℕ → Type 0) (across down wide high : List ℕ) → wide ≡ across → high ≡ down
      → (cells : List (List A)) × (map (map v) cells ≡ rows) × HoldAlong grid (λ x. f (v x)) columns cells holds across down → HoldAlong grid f columns rows holds wide high
  sizes_told holds across down wide high widths heights told =
      let both = both_told told.0 told.1 holds across down told.2 in
      record { widths = rw widths both.widths; heights = rw heights both.heights }

  -- a refusal along one direction
  pub one_refused : (sizing : Sizing) (direction : Direction) (e : LayoutError)
      → UnlessMemoryError e ((cells : List (List A)) × (map (map v) cells ≡ rows) × IsRefused sizing (problem_of grid (λ x. f (v x)) columns cells direction) e)
      → IsRefused sizing (problem_of grid f columns rows direction) e
  one_refused sizing direction (OutOfTable place) is = subst (λ problem. IsRefused sizing problem (OutOfTable place)) (one_told is.0 is.1 direction) is.2
  one_refused sizing direction TooLarge is = subst (AreTooLargeBy sizing) (one_told is.0 is.1 direction) is.2
  one_refused sizing direction (Memory e) is = tt

  -- an answer along one direction
  pub answers_told : {V : Type 0} (sizing : Sizing) (holds : Problem → V → Type 0) (direction : Direction) (result : Result V LayoutError)
      → UnlessMemory result ((cells : List (List A)) × (map (map v) cells ≡ rows) × Answers sizing holds (problem_of grid (λ x. f (v x)) columns cells direction) result)
      → Answers sizing holds (problem_of grid f columns rows direction) result
  answers_told sizing holds direction (Ok found) is = subst (λ problem. holds problem found) (one_told is.0 is.1 direction) is.2
  answers_told sizing holds direction (Err e) is = one_refused sizing direction e is

-- an answer with a dimension, by some configuration
pub laid_told : {A B T M : Type 0} (Made : SpannedConfig → Type 0) (v : A → B) (f : B → ℕ × ℕ) (columns : ℕ) (rows : List (List B)) (sizing : Sizing) (result : Result (GridDimension T M) LayoutError)
    → UnlessMemory result ((config : SpannedConfig) × Made config × ((cells : List (List A)) × (map (map v) cells ≡ rows) × IsLaidOut (spanned_grid config) (λ x. f (v x)) columns cells sizing result))
    → UnlessMemory result ((config : SpannedConfig) × Made config × IsLaidOut (spanned_grid config) f columns rows sizing result)
laid_told Made v f columns rows sizing (Ok dimension) is = (is.0, is.1, both_told (spanned_grid is.0) v f columns rows is.2.0 is.2.1 _ _ _ is.2.2)
laid_told Made v f columns rows sizing (Err (OutOfTable place)) is = (is.0, is.1, both_refused (spanned_grid is.0) v f columns rows sizing (OutOfTable place) is.2)
laid_told Made v f columns rows sizing (Err TooLarge) is = (is.0, is.1, both_refused (spanned_grid is.0) v f columns rows sizing TooLarge is.2)
laid_told Made v f columns rows sizing (Err (Memory e)) is = tt

-- what holds by a grid that settings decide, with the grid
pub with_grid : {A E : Type 0} (settings : List Setting) (grid : Grid) → IsGridOf settings grid → (holds : Grid → A → Type 0) (result : Result A E) → IfOk result (holds grid)
    → IfOk result (λ x. (other : Grid) × IsGridOf settings other × holds other x)
with_grid settings grid is holds (Ok x) so = (grid, is, so)
with_grid settings grid is holds (Err e) so = tt

-- the table of the cells told, of least sizes, is that of the rows
pub table_told : {A B : Type 0} (config : SpannedConfig) (v : A → B) (f : B → ℕ × ℕ) (columns : ℕ) (rows : List (List B)) (result : Result TableParts LayoutError)
    → UnlessMemory result ((cells : List (List A)) × (map (map v) cells ≡ rows) × IsTableOf config (λ x. f (v x)) columns cells Least result)
    → UnlessMemory result (IsTableOf config f columns rows Least result)
table_told config v f columns rows (Ok table) is =
    (is.2.0, both_told (spanned_grid config) v f columns rows is.0 is.1 AreLeastSizes table.widths table.heights is.2.1)
table_told config v f columns rows (Err (OutOfTable place)) is = both_refused (spanned_grid config) v f columns rows Least (OutOfTable place) is
table_told config v f columns rows (Err TooLarge) is = both_refused (spanned_grid config) v f columns rows Least TooLarge is
table_told config v f columns rows (Err (Memory e)) is = tt
