-- Tables whose cells span one row and one column each.
use Rattle.std.proofs.Common.{◌≡◌, ◌∙◌, ◌<◌, ℕ, Bool, true, false, List, [], ap, arith, inl, inr, refl}
use Rattle.std.specs.Prelude.{◌||◌, IsSome, flat_map, nat_lt, unwrap_or}
use Rattle.std.proofs.lemmas.Bool.Decides.{nat_tests}
use Rattle.std.specs.FinMap.{get-empty}
use Rattle.papergrid_values.specs.MapKeys.{position_cmp}
use Rattle.papergrid_values.specs.declared.borders.Borders.{Borders}
use Rattle.papergrid_values.specs.declared.direction.Direction.{Direction}
use Rattle.papergrid_values.specs.declared.direction.Direction.TheVariants.{Columns, Rows}
use Rattle.papergrid_values.specs.declared.position.Position.{Position}
use Rattle.papergrid_tables.specs.StoredBorders.{StoredBorders}
use Rattle.papergrid_tables.specs.LineTests.{line_along}
use Rattle.papergrid_tables.specs.BorderParts.{in_frame}
use Rattle.papergrid_tables.specs.ForProofs.LineTested.{line_test}
use Rattle.papergrid_config.specs.Grids.{spanned_grid}
use Rattle.papergrid_config.specs.History.{HasSettingHistory}
use Rattle.papergrid_maps.proofs.MadeTables.{span_history}
use Rattle.papergrid_config.specs.Parts.{span_calls}
use Rattle.papergrid_config.specs.declared.setting.Setting.{Setting}
use Rattle.papergrid_config.specs.declared.spanned.SpannedConfig.{SpannedConfig}
use Rattle.papergrid_maps.proofs.Made.{spans_made}
use Rattle.papergrid_maps.specs.Spans.{span_along}
use Rattle.papergrid_maps.specs.Visible.{is_visible}
use Rattle.papergrid_maps.specs.ForProofs.SpanVisible.{visible_test}
use Rattle.papergrid_maps.specs.Grids.{Grid}
use Rattle.papergrid_layout.specs.Places.{TableView}
use Rattle.papergrid_draw.specs.Tiles.{EndsOutside, IsTiled, Owns}

-- each position is visible, and spans one row and one column
pub record HasNoSpans (grid : Grid) : Type 0 where
  pub shown : (p : Position) → grid.shows p ≡ true
  pub single : (direction : Direction) (p : Position) → grid.span direction p ≡ 1

-- positions are the same by row and column
same-position : (p q : Position) → p.row ≡ q.row → p.col ≡ q.col → p ≡ q
same-position p q row col = λ i. record { row = row i; col = col i }

pub none-spanned : (settings : List Setting) (config : SpannedConfig) → flat_map span_calls settings ≡ [] → HasSettingHistory settings config → HasNoSpans (spanned_grid config)
none-spanned settings config none told =
    let empty = span_history (flat_map span_calls settings) config.spans told.spans ∙ ap spans_made none in
    record {
      shown = λ p. ap (λ spans. is_visible spans p) empty ∙ seen p;
      single = λ direction p. ap (λ spans. span_along spans direction p) empty ∙ one direction p;
    }
  where
    one : (direction : Direction) (p : Position) → span_along (spans_made []) direction p ≡ 1
    one Columns p = ap (λ o. unwrap_or o 1) (get-empty position_cmp p)
    one Rows p = ap (λ o. unwrap_or o 1) (get-empty position_cmp p)

    seen : (p : Position) → is_visible (spans_made []) p ≡ true
    seen p = (visible_test (spans_made []) p).1.1 (λ anchor other covers.
        let across = one Columns anchor in
        let down = one Rows anchor in
        other (same-position anchor p (omega (arith, covers.below_top, covers.above_bottom)) (omega (arith, covers.after_left, covers.before_right))))

module _ (table : TableView) (spans : HasNoSpans table.grid) where
  within : (p : Position) → EndsOutside table p → ⊥
  within p (is, Columns, over) = let one = spans.single Columns p in let inside = is.col_in in absurd (omega (arith, over))
  within p (is, Rows, over) = let one = spans.single Rows p in let inside = is.row_in in absurd (omega (arith, over))

  owns-itself : (q : Position) → Owns table q q
  owns-itself q =
      let across = spans.single Columns q in
      let down = spans.single Rows q in
      record { visible = spans.shown q; covers = record { below_top = omega arith; above_bottom = omega arith; after_left = omega arith; before_right = omega arith } }

  only-itself : (q other : Position) → Owns table other q → other ≡ q
  only-itself q other owns =
      let across = spans.single Columns other in
      let down = spans.single Rows other in
      let covers = owns.covers in
      same-position other q (omega arith) (omega arith)

  pub tiled : IsTiled table
  tiled = record { within = within; once = λ q inside. (q, owns-itself q, only-itself q) }

-- ---- vertical lines

or-true : (x y : Bool) → (x || (y || true)) ≡ true
or-true true y = refl
or-true false true = refl
or-true false false = refl

pub line-between : (stored : StoredBorders ℕ) (frame : Borders ℕ) (j count : ℕ) → stored.frame ≡ frame → IsSome frame.vertical → 0 < j → j < count → line_along stored Columns count j ≡ true
line-between stored frame j count is some above below =
    let first : nat_lt 0 j ≡ true = grind (arith, nat_tests) in
    let second : nat_lt j count ≡ true = grind (arith, nat_tests) in
    let framed : in_frame Columns stored.frame j count ≡ true = rw (is, first, second, some) (or-true _ _) in
    (line_test stored Columns count j).1.1 (inr (inl framed))
