-- What is known of the owner of a position, and on walks that check that each position has just one.
use mathlib.Core.HLevel.{Π_prop, ⊥_prop, is_prop→PathP}
use denote.Struct.Props.{props}
use base.Stored.{Coded-set}
use Rattle.std.specs.Prelude.{◌≡◌, ◌⊎◌, ℕ, ◌+◌, ◌<◌, ◌≤◌, ◌^◌, List, length, refl, slice_index}
use Rattle.std.specs.Coded.{Coded, code_by, coded×, coded_ℕ}
use Rattle.papergrid_values.specs.Positions.{IsBefore, position_of}
use Rattle.papergrid_values.specs.declared.direction.Direction.TheVariants.{Rows}
use Rattle.papergrid_values.specs.declared.position.Position.{Position}
use Rattle.papergrid_walk.specs.ForProofs.Shown.{Shows}
use Rattle.papergrid_layout.specs.Places.{TableView}
use Rattle.papergrid_draw.specs.Tiles.{AreWithin, IsTablePosition, IsTiled, IsOwnedOnce, Owns}
use Rattle.papergrid_draw.specs.declared.tiles.Tiling.{Tiling}

-- a walk over positions has come to row r and column c
module _ (table : TableView) (r c : ℕ) where
  -- the visible cell at p stands before these, and covers column d of the row
  pub record OwnsBefore (d : ℕ) (p : Position) : Type 0 where
    pub owns : Owns table p (position_of (r, d))
    pub before : IsBefore p (position_of (r, c))

  -- just one does, and the number is the first row that it leaves free
  pub record IsOwnedUntil (d end : ℕ) (p : Position) : Type 0 where
    pub it : OwnsBefore d p
    pub ends : end ≡ p.row + table.grid.span Rows p
    pub alone : (other : Position) → OwnsBefore d other → other ≡ p

  -- the same, or none does, and the number is no greater than the row
  abbrev pub IsUntil : ℕ → ℕ → Type 0
  IsUntil d end = ((end ≤ r) × ((p : Position) → OwnsBefore d p → ⊥)) ⊎ ((p : Position) × IsOwnedUntil d end p)

  -- there is such a number for each column, and just one visible cell covers each position that is passed
  pub record AreOwnedBefore (until : List ℕ) : Type 0 where
    pub each : length until ≡ table.shape.1
    pub are : (d : ℕ) → d < table.shape.1 → IsUntil d (slice_index until d)
    pub once : (q : Position) → IsTablePosition table q → IsBefore q (position_of (r, c)) → IsOwnedOnce table q

-- the columns of a range have numbers no greater than the row
abbrev pub AreFree : List ℕ → ℕ → ℕ → ℕ → Type 0
AreFree until row start last = (k : ℕ) → start ≤ k → k < last → slice_index until k ≤ row

-- they are given a number, and no others are changed
pub record AreRaised (old new : List ℕ) (start last end : ℕ) : Type 0 where
  pub each : length new ≡ length old
  pub inside : (k : ℕ) → start ≤ k → k < last → slice_index new k ≡ end
  pub outside : (k : ℕ) → (k < start) ⊎ (last ≤ k) → slice_index new k ≡ slice_index old k

-- the walk has come to row r and column c
pub record HasTiled (table : TableView) (r c : ℕ) (tiling : Tiling) : Type 0 where
  pub fits : (table.shape.0 < 2 ^ 64) × (table.shape.1 < 2 ^ 64)
  pub within : AreWithin table
  pub shows : Shows table.grid tiling.sweep r c
  pub owned : AreOwnedBefore table r c tiling.until.items

-- ---- a table is tiled in one way at most

position_code : Coded Position
position_code = code_by (ℕ × ℕ) (coded× coded_ℕ coded_ℕ) (λ p. (p.row, p.col)) (λ p. record { row = p.0; col = p.1 }) (λ _. refl)

Owns-prop : (table : TableView) (p q : Position) → IsProp (Owns table p q)
Owns-prop table p q = Prim.hlevel props

IsOwnedOnce-prop : (table : TableView) (q : Position) → IsProp (IsOwnedOnce table q)
IsOwnedOnce-prop table q a b =
    let same : a.0 ≡ b.0 = b.2 a.0 a.1 in λ i. (
      same i,
      is_prop→PathP (λ j. Owns table (same j) q) (λ j. Owns-prop table (same j) q) a.1 b.1 i,
      is_prop→PathP (λ j. (other : Position) → Owns table other q → other ≡ same j)
          (λ j. Π_prop (λ other. Π_prop (λ _. Coded-set position_code other (same j)))) a.2 b.2 i,
    )

pub IsTiled-prop : (table : TableView) → IsProp (IsTiled table)
IsTiled-prop table a b = λ i. record {
  within = Π_prop (λ p. Π_prop (λ _. ⊥_prop)) a.within b.within i;
  once = Π_prop (λ q. Π_prop (λ _. IsOwnedOnce-prop table q)) a.once b.once i;
}
