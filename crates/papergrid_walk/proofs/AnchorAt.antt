-- The anchor at a position that a sweep has reached, if there is one.
use Rattle.std.proofs.Common.{◌≡◌, ◌<◌, ◌≤◌, ℕ, length, get_or, Some, slice_get, arith, inl, inr, subst, refl}
use Rattle.std.proofs.lemmas.Bool.{cases_lt}
use Rattle.std.proofs.lemmas.Option.{slice_get_within, slice_get-get_or}
use Rattle.papergrid_values.specs.Positions.{IsBefore}
use Rattle.papergrid_values.specs.declared.position.Position.{Position}
use Rattle.papergrid_maps.specs.Anchors.{HasAnchor, IsSorted}
use Rattle.papergrid_maps.specs.declared.anchors.Anchor.{Anchor}
use Rattle.papergrid_walk.specs.ForProofs.Swept.{HasReached, IsAnchorAt, Walk}

before_itself : (p : Position) → IsBefore p p → ⊥
before_itself p before = grind arith

module _ (walk : Walk) (p : Position) where
  -- an anchor of the position is the next one
  next_at : IsSorted walk.anchors → HasReached walk p → (has : HasAnchor walk.anchors p) → slice_get walk.anchors walk.passed ≡ Some has.anchor
  next_at sorted reached has = elim (cases_lt has.index walk.passed) [
    | inl before ↦ absurd (before_itself p (subst (λ q. IsBefore q p) has.is_there (reached.before has.index has.anchor before has.is_anchor)))
    | inr from ↦ (elim (cases_lt walk.passed has.index) [
      | inl later ↦ (let within : has.index < length walk.anchors = slice_get_within walk.anchors has.index has.anchor has.is_anchor in
          let next : Anchor = get_or walk.anchors walk.passed has.anchor in
          let is_next : slice_get walk.anchors walk.passed ≡ Some next = slice_get-get_or walk.anchors walk.passed has.anchor (omega (arith, within, later)) in
          absurd (reached.rest next is_next (subst (λ q. IsBefore next.position q) has.is_there (sorted walk.passed has.index next has.anchor later is_next has.is_anchor))))
      | inr to ↦ (let same : has.index ≡ walk.passed = omega (arith, from, to) in subst (λ k. slice_get walk.anchors k ≡ Some has.anchor) same has.is_anchor)
    ])
  ]

  -- where the next one is no anchor of the position, none is
  none_found : IsSorted walk.anchors → HasReached walk p → ((b : Anchor) → slice_get walk.anchors walk.passed ≡ Some b → b.position ≡ p → ⊥)
      → IsAnchorAt walk.anchors p (record { position = p; rows = 1; cols = 1 })
  none_found sorted reached none = inr ((λ has. none has.anchor (next_at sorted reached has) has.is_there), refl)

  pub none_left : (count : ℕ) → IsSorted walk.anchors → HasReached walk p → count ≡ length walk.anchors → count ≤ walk.passed
      → IsAnchorAt walk.anchors p (record { position = p; rows = 1; cols = 1 })
  none_left count sorted reached counted past =
      none_found sorted reached (λ b is there. absurd (omega (arith, counted, past, slice_get_within walk.anchors walk.passed b is)))
