-- What a sweep over the rows holds of the anchors that it has passed.
use Rattle.std.specs.Prelude.{◌≡◌, ℕ, ◌+◌, ◌-◌, ◌^◌, ◌<◌, ◌≤◌, ◌⊎◌, zero, suc, List, Option, Some, None, length, slice_get, nat_lt, if◌then◌else◌}
use Rattle.papergrid_walk.specs.ForProofs.MaxTree.{end_at, HasLevels, raised_end}
use Rattle.papergrid_walk.specs.declared.max_tree.MaxTree.{MaxTree}
use Rattle.papergrid_values.specs.declared.position.Position.{Position}
use Rattle.papergrid_values.specs.Positions.{IsBefore}
use Rattle.papergrid_maps.specs.Anchors.{HasAnchor, IsSorted}
use Rattle.papergrid_maps.specs.declared.anchors.Anchor.{Anchor}

-- the lesser of two
abbrev pub lesser : ℕ → ℕ → ℕ
lesser a b = if nat_lt a b then a else b

-- no row or column of a table is the last number, so an end past it is cut there
abbrev pub cut_end : ℕ → ℕ
cut_end end = lesser end (2 ^ 64 - 1)

-- the end over a column once one more anchor is passed
abbrev pub end_with : Option Anchor → ℕ → ℕ → ℕ
end_with None old column = old
end_with (Some a) old column = raised_end a.position.col (a.position.col + a.cols) (cut_end (a.position.row + a.rows)) old column

-- the greatest end over a column of the first anchors
abbrev pub swept_end_of : List Anchor → ℕ → ℕ → ℕ
swept_end_of anchors zero column = 0
swept_end_of anchors (suc passed) column = end_with (slice_get anchors passed) (swept_end_of anchors passed column) column

-- the levels hold the ends of the anchors that are passed
abbrev pub HoldsEnds : MaxTree → ℕ → List Anchor → ℕ → Type 0
HoldsEnds max_tree columns anchors passed = (column : ℕ) → column < columns → end_at max_tree column ≡ swept_end_of anchors passed column

-- each anchor that is passed stands before the position
abbrev pub AllBefore : List Anchor → ℕ → Position → Type 0
AllBefore anchors passed p = (k : ℕ) (a : Anchor) → k < passed → slice_get anchors k ≡ Some a → IsBefore a.position p

-- a walk over a table: its anchors in order, its columns, and how many anchors are passed
pub record Walk : Type 0 where
  pub anchors : List Anchor
  pub columns : ℕ
  pub passed : ℕ

-- what a sweep keeps true
pub record IsSwept (max_tree : MaxTree) (walk : Walk) : Type 0 where
  pub fits : HasLevels max_tree walk.columns
  pub sorted : IsSorted walk.anchors
  pub within : walk.passed ≤ length walk.anchors
  pub holds : HoldsEnds max_tree walk.columns walk.anchors walk.passed

-- the walk may ask for the position
abbrev pub IsAhead : Walk → Position → Type 0
IsAhead walk p = AllBefore walk.anchors walk.passed p

-- the walk has come to the position: the anchors before it are passed, and no others
pub record HasReached (walk : Walk) (p : Position) : Type 0 where
  pub before : IsAhead walk p
  pub rest : (a : Anchor) → slice_get walk.anchors walk.passed ≡ Some a → IsBefore a.position p → ⊥

-- an anchor at the position, or, where there is none, the position with spans of 1
abbrev pub IsAnchorAt : List Anchor → Position → Anchor → Type 0
IsAnchorAt anchors p found =
    ((k : ℕ) × (slice_get anchors k ≡ Some found) × (found.position ≡ p))
    ⊎ ((HasAnchor anchors p → ⊥) × (found ≡ record { position = p; rows = 1; cols = 1 }))
