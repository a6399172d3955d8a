-- The owners of the positions of a row, one after another.
use Rattle.std.proofs.Common.{◌≡◌, ◌∙◌, ap, sym, subst, inl, inr, ℕ, ◌+◌, ◌-◌, ◌<◌, List, length, set, get_or, Some, arith}
use Rattle.std.proofs.lemmas.Bool.{cases_eq}
use Rattle.std.proofs.lemmas.Grind.{get_or-set_at}
use Rattle.std.proofs.lemmas.List.{get_or-set_other}
use Rattle.std.proofs.lemmas.Option.{same_Some}
use Rattle.papergrid_values.specs.Positions.{position_of}
use Rattle.papergrid_values.specs.declared.direction.Direction.TheVariants.{Columns, Rows}
use Rattle.papergrid_values.specs.declared.position.Position.{Position}
use Rattle.papergrid_layout.specs.Places.{TableView}
use Rattle.papergrid_draw.specs.Tiles.{IsTablePosition, IsTiled, owner}
use Rattle.papergrid_draw.proofs.PageLemmas.{owner-behind}
use Rattle.papergrid_draw.proofs.TileLemmas.{owner-itself}

module _ (table : TableView) where
  -- the owners up to a column
  abbrev pub AreOwnersBefore : ℕ → ℕ → List Position → Type 0
  AreOwnersBefore row col owners = (k : ℕ) (other : Position) → k < col → owner table (position_of (row, k)) ≡ Some (get_or owners k other)

  -- one more
  pub owners-more : (row col : ℕ) (owners : List Position) (own : Position) → col < length owners → AreOwnersBefore row col owners →
      owner table (position_of (row, col)) ≡ Some own → AreOwnersBefore row (col + 1) (set owners col own)
  owners-more row col owners own within before is k other next = elim (cases_eq k col) [
    | inl here ↦ ap (λ c. owner table (position_of (row, c))) here ∙ is ∙ ap (λ (p : Position). Some p) (sym (get_or-set_at owners col k own other here within))
    | inr there ↦ before k other (omega (arith, next, there)) ∙ ap (λ (p : Position). Some p) (sym (get_or-set_other owners col k own other there))
  ]

  -- where the cells above and on the left do not reach a position, it owns itself
  pub owns-itself : (row col : ℕ) (above left : Position) → IsTiled table → IsTablePosition table (position_of (row, col)) →
      (0 < row → owner table (position_of (row - 1, col)) ≡ Some above) → (0 < col → owner table (position_of (row, col - 1)) ≡ Some left) →
      ((above.row < row) × (row - above.row < table.grid.span Rows above) → ⊥) →
      ((left.row ≡ row) × (left.col < col) × (col - left.col < table.grid.span Columns left) → ⊥) →
      owner table (position_of (row, col)) ≡ Some (position_of (row, col))
  owns-itself row col above left tiled inside upper beside none_above none_left =
      (owner-itself table tiled row col inside
      (λ a begun is reaches.
      let same : a ≡ above = same_Some a above (sym is ∙ upper begun) in
      let behind = (owner-behind table (position_of (row - 1, col)) a is).0 in
      subst (λ (p : Position). (p.row < row) × (row - p.row < table.grid.span Rows p) → ⊥) (sym same) none_above (omega (arith, behind, begun), reaches))
      (λ l begun is level reaches.
      let same : l ≡ left = same_Some l left (sym is ∙ beside begun) in
      let behind = (owner-behind table (position_of (row, col - 1)) l is).1 in
      subst (λ (p : Position). (p.row ≡ row) × (p.col < col) × (col - p.col < table.grid.span Columns p) → ⊥) (sym same) none_left
      (level, omega (arith, behind, begun), reaches))).is
