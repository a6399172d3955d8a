-- What is covered is hidden, and what is not covered is visible.
use Rattle.std.proofs.Common.{◌≡◌, ℕ, ◌≤◌, true, false, Option, Some, None, refl, arith}
use Rattle.std.specs.Prelude.{unwrap_or, ◌≢◌, ◌↔◌}
use Rattle.std.specs.FinMap.{FinMap, get}
use Rattle.std.proofs.lemmas.Bool.{false≢true}
use Rattle.papergrid_values.specs.declared.direction.Direction.{Direction}
use Rattle.papergrid_values.specs.declared.direction.Direction.TheVariants.{Columns, Rows}
use Rattle.papergrid_values.specs.declared.position.Position.{Position}
use Rattle.papergrid_values.specs.MapKeys.{position_cmp}
use Rattle.papergrid_maps.specs.Spans.{Spans, span_along, IsCoveredByColumn, IsCoveredByRow, IsVisible}
use Rattle.papergrid_maps.specs.ForProofs.SpanIndex.{AreFromTwo}

-- a span that is stored is at least 1, and where none is stored it is 1
at_least_one : (spans : FinMap position_cmp ℕ) → AreFromTwo spans → (p : Position) (o : Option ℕ) → get spans p ≡ o → 1 ≤ unwrap_or o 1
at_least_one spans big p None e = omega arith
at_least_one spans big p (Some n) e = omega (arith, big p n e)

-- each span is at least 1
pub spans_from_one : (spans : Spans) → AreFromTwo spans.columns → AreFromTwo spans.rows → (d : Direction) (p : Position) → 1 ≤ span_along spans d p
spans_from_one spans wide tall Columns p = at_least_one spans.columns wide p _ refl
spans_from_one spans wide tall Rows p = at_least_one spans.rows tall p _ refl

-- what is covered is not visible
pub hidden_right : (spans : Spans) → AreFromTwo spans.rows → (p : Position) → IsCoveredByColumn (span_along spans) p → IsVisible (span_along spans) p → ⊥
hidden_right spans big p h visible = grind (arith, at_least_one)

pub hidden_below : (spans : Spans) → AreFromTwo spans.columns → (p : Position) → IsCoveredByRow (span_along spans) p → IsVisible (span_along spans) p → ⊥
hidden_below spans big p h visible = grind (arith, at_least_one)

-- the answer of each way
pub not_visible : {V : Type 0} → (V → ⊥) → (false ≡ true) ↔ V
not_visible h = (λ e. absurd (false≢true e), λ v. absurd (h v))
