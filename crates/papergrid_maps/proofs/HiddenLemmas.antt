-- What the anchors hide is what the spans do not leave visible.
use Rattle.std.proofs.Common.{arith, ◌≡◌, ◌≢◌, ◌↔◌, IsTrue, ℕ, List}
use Rattle.std.proofs.lemmas.Bool.{cases_lt}
use Rattle.papergrid_values.specs.declared.direction.Direction.{Direction}
use Rattle.papergrid_values.specs.declared.position.Position.{Position}
use Rattle.papergrid_maps.specs.declared.anchors.Anchor.{Anchor}
use Rattle.papergrid_maps.specs.Hidden.{IsHidden}
use Rattle.papergrid_maps.specs.Spans.{IsInRectangle, IsVisible, Spans, span_along}
use Rattle.papergrid_maps.specs.Visible.{is_visible}
use Rattle.papergrid_maps.specs.ForProofs.SpanVisible.{visible_test}
use Rattle.papergrid_maps.specs.Anchors.{HasAnchor, AreAnchors}

pub position-same : (p q : Position) → p.row ≡ q.row → p.col ≡ q.col → p ≡ q
position-same p q e f = grind arith

pub visible-not-hidden : (span : Direction → Position → ℕ) (anchors : List Anchor) (p : Position) → AreAnchors span anchors
    → IsVisible span p → IsHidden anchors p → ⊥
visible-not-hidden span anchors p are visible hidden = grind arith

hidden-by : (span : Direction → Position → ℕ) (anchors : List Anchor) (p q : Position) → AreAnchors span anchors
    → q ≢ p → IsInRectangle span q p → HasAnchor anchors q → IsHidden anchors p
hidden-by span anchors p q are other within has = grind arith

pub not-hidden-visible : (span : Direction → Position → ℕ) (anchors : List Anchor) (p : Position) → AreAnchors span anchors
    → (IsHidden anchors p → ⊥) → IsVisible span p
not-hidden-visible span anchors p are shown q other within = grind (arith, cases_lt, hidden-by, position-same)

pub visible-by-hidden : (span : Direction → Position → ℕ) (anchors : List Anchor) (p : Position) → AreAnchors span anchors
    → IsVisible span p ↔ (IsHidden anchors p → ⊥)
visible-by-hidden span anchors p are = grind (arith, visible-not-hidden, not-hidden-visible)

pub test-by-hidden : (spans : Spans) (anchors : List Anchor) (p : Position) → AreAnchors (span_along spans) anchors
    → IsTrue (is_visible spans p) ↔ (IsHidden anchors p → ⊥)
test-by-hidden spans anchors p are =
    let tested = (visible_test spans p).1 in
    let shown = visible-by-hidden (span_along spans) anchors p are in
    (λ t. shown.0 (tested.0 t), λ h. tested.1 (shown.1 h))
