-- What holds of an answer.
use Rattle.std.proofs.Common.{◌≡◌, ◌∙◌, ℕ, List, sym, ap, inl, inr, arith}
use Rattle.std.specs.Prelude.{Result, Ok, Err, Option, None, Some, is_some}
use Rattle.std.proofs.lemmas.Bool.{false≢true}
use Rattle.papergrid_values.specs.declared.direction.Direction.{Direction}
use Rattle.papergrid_values.specs.declared.direction.Direction.TheVariants.{Columns, Rows}
use Rattle.papergrid_tracks.specs.declared.error.LayoutError.{LayoutError}
use Rattle.papergrid_tracks.specs.declared.error.LayoutError.TheVariants.{OutOfTable, TooLarge, Memory}
use Rattle.papergrid_tracks.specs.Sizings.{IsRefused}
use Rattle.papergrid_tracks.specs.declared.sizing.Sizing.{Sizing}
use Rattle.papergrid_tracks.specs.Ranges.{first_out}
use Rattle.papergrid_walk.specs.Cells.{problem_of}
use Rattle.papergrid_maps.specs.Grids.{Grid}
use Rattle.papergrid_layout.specs.Answers.{IsBothRefused, UnlessMemory, UnlessMemoryError, first_out_of_table}

-- what holds anyway holds unless an allocation failed
pub unless_memory_error : (e : LayoutError) (P : Type 0) → P → UnlessMemoryError e P
unless_memory_error (OutOfTable q) P p = p
unless_memory_error TooLarge P p = p
unless_memory_error (Memory e) P p = tt

pub unless : {A : Type 0} (r : Result A LayoutError) (P : Type 0) → P → UnlessMemory r P
unless (Ok x) P p = p
unless (Err e) P p = unless_memory_error e P p

some_is_not_none : {A : Type 0} (x : A) (r : Option A) → r ≡ Some x → r ≡ None → ⊥
some_is_not_none x r e n = false≢true (ap is_some (sym n ∙ e))

module _ {C : Type 0} (grid : Grid) (measure : C → ℕ × ℕ) (columns : ℕ) (cells : List (List C)) (sizing : Sizing) where
  -- where no cell overflows the table along either direction, one direction's refusal is that of both
  pub refused_along : (direction : Direction) → first_out_of_table grid measure columns cells ≡ None →
      first_out (problem_of grid measure columns cells direction).count (problem_of grid measure columns cells direction).demands ≡ None →
      (e : LayoutError) → IsRefused sizing (problem_of grid measure columns cells direction) e →
      IsBothRefused grid measure columns cells sizing e
  refused_along direction none inside (OutOfTable p) out = grind (arith, some_is_not_none)
  refused_along Columns none inside TooLarge large = (none, inl large)
  refused_along Rows none inside TooLarge large = (none, inr large)
  refused_along direction none inside (Memory e) any = tt
