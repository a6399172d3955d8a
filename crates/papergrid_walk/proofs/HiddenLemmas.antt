-- The greatest end over a column tells whether an anchor that is passed has the position.
use Rattle.std.proofs.Common.{arith, subst, ◌≢◌, ◌↔◌, IsTrue, sym, ap, ◌∙◌, inl, inr, ◌≡◌, ℕ, zero, suc, ◌+◌, ◌-◌, ◌^◌, ◌<◌, ◌≤◌, ◌⊎◌, nat_lt, List, Option, Some, None, slice_get}
use Rattle.std.proofs.lemmas.Bool.{cases_lt, ltb-true, lt-ltb}
use Rattle.std.proofs.lemmas.Option.{slice_get_within, slice_get-get_or}
use Rattle.papergrid_maps.specs.declared.anchors.Anchor.{Anchor}
use Rattle.papergrid_values.specs.declared.position.Position.{Position}
use Rattle.papergrid_walk.specs.declared.max_tree.MaxTree.{MaxTree}
use Rattle.papergrid_walk.specs.ForProofs.MaxTree.{end_at, raised_end}
use Rattle.papergrid_values.specs.Positions.{IsBefore}
use Rattle.papergrid_maps.specs.Hidden.{IsHidden}
use Rattle.papergrid_walk.specs.ForProofs.Swept.{cut_end, end_with, swept_end_of, AllBefore, HoldsEnds}
use Rattle.papergrid_maps.specs.Anchors.{IsSorted, IsWithin}
use Rattle.papergrid_maps.proofs.HiddenLemmas.{position-same}

raised-old : (first last end old column row : ℕ) → row < old → row < raised_end first last end old column
raised-old first last end old column row h = grind (arith)

raised-new : (first last end old column row : ℕ) → first ≤ column → column < last → row < end → row < raised_end first last end old column
raised-new first last end old column row h k m = grind (arith)

below-cut : (row end : ℕ) → row < end → row < 2 ^ 64 - 1 → row < cut_end end
below-cut row end h k = grind (arith)

-- the anchor, if there is one, has the column, and ends below the row
pub record IsOver (found : Option Anchor) (column row : ℕ) : Type 0 where
  pub anchor : Anchor
  pub is_anchor : found ≡ Some anchor
  pub after_left : anchor.position.col ≤ column
  pub before_right : column < anchor.position.col + anchor.cols
  pub above_bottom : row < anchor.position.row + anchor.rows

with-found : (found : Option Anchor) (old column row : ℕ) → row < end_with found old column → (row < old) ⊎ IsOver found column row
with-found None old column row h = inl h
with-found (Some a) old column row h = grind arith

with-old : (found : Option Anchor) (old column row : ℕ) → row < old → row < end_with found old column
with-old None old column row h = h
with-old (Some a) old column row h = raised-old a.position.col (a.position.col + a.cols) (cut_end (a.position.row + a.rows)) old column row h

with-new : (found : Option Anchor) (old column row : ℕ) → row < 2 ^ 64 - 1 → IsOver found column row → row < end_with found old column
with-new found old column row k over = grind (arith, raised-new, below-cut)

pub record IsPassed (anchors : List Anchor) (passed column row : ℕ) : Type 0 where
  pub index : ℕ
  pub below : index < passed
  pub over : IsOver (slice_get anchors index) column row

pub end-found : (anchors : List Anchor) (passed column row : ℕ) → row < swept_end_of anchors passed column → IsPassed anchors passed column row
end-found anchors zero column row h = absurd (omega (arith, h))
end-found anchors (suc passed) column row h =
    elim (with-found (slice_get anchors passed) (swept_end_of anchors passed column) column row h) [
      | inl older ↦ (let before = end-found anchors passed column row older in
          record { index = before.index; below = omega (arith, before.below); over = before.over })
      | inr over ↦ record { index = passed; below = omega arith; over = over }
    ]

pub end-over : (anchors : List Anchor) (passed column row : ℕ) → row < 2 ^ 64 - 1 → IsPassed anchors passed column row → row < swept_end_of anchors passed column
end-over anchors zero column row k is = absurd (omega (arith, is.below))
end-over anchors (suc passed) column row k is =
    elim (cases_lt is.index passed) [
      | inl below ↦ with-old (slice_get anchors passed) _ column row (end-over anchors passed column row k (record { index = is.index; below = below; over = is.over }))
      | inr from ↦ grind (arith, with-new)
    ]

-- an anchor whose rectangle has another position stands before it
before-within : (a : Anchor) (p : Position) → a.position ≢ p → IsWithin a p → IsBefore a.position p
before-within a p other within = grind (arith, cases_lt, position-same)

before-other : (q p : Position) → IsBefore q p → q ≢ p
before-other q p (inl above) same = let e : q.row ≡ p.row = ap (λ r. r.row) same in omega (arith, above)
before-other q p (inr left) same = let e : q.col ≡ p.col = ap (λ r. r.col) same in omega (arith, left.1)

before-trans : (p q r : Position) → IsBefore p q → IsBefore q r → IsBefore p r
before-trans p q r (inl a) (inl b) = inl (omega arith)
before-trans p q r (inl a) (inr b) = inl (omega (arith, b.0))
before-trans p q r (inr a) (inl b) = inl (omega (arith, a.0))
before-trans p q r (inr a) (inr b) = inr (a.0 ∙ b.0, omega (arith, a.1, b.1))

-- what stands before a position stands in no later row
before-row : (p q : Position) → IsBefore p q → p.row ≤ q.row
before-row p q (inl above) = omega arith
before-row p q (inr level) = omega (arith, level.0)

pub hidden-above : (anchors : List Anchor) (passed : ℕ) (p : Position) → AllBefore anchors passed p
    → p.row < swept_end_of anchors passed p.col → IsHidden anchors p
hidden-above anchors passed p before h =
    let found = end-found anchors passed p.col p.row h in
    let ahead = before found.index found.over.anchor found.below found.over.is_anchor in
    record {
      index = found.index;
      anchor = found.over.anchor;
      is_anchor = found.over.is_anchor;
      is_other = before-other _ _ ahead;
      is_in = record {
        below_top = before-row _ _ ahead;
        above_bottom = found.over.above_bottom;
        after_left = found.over.after_left;
        before_right = found.over.before_right;
      };
    }

pub above-hidden : (anchors : List Anchor) (passed : ℕ) (p : Position) → IsSorted anchors
    → ((a : Anchor) → slice_get anchors passed ≡ Some a → IsBefore a.position p → ⊥)
    → p.row < 2 ^ 64 - 1 → IsHidden anchors p → p.row < swept_end_of anchors passed p.col
above-hidden anchors passed p sorted rest row hidden =
    let before = before-within hidden.anchor p hidden.is_other hidden.is_in in
    elim (cases_lt hidden.index passed) [
      | inl below ↦ end-over anchors passed p.col p.row row (record {
        index = hidden.index;
        below = below;
        over = record {
          anchor = hidden.anchor;
          is_anchor = hidden.is_anchor;
          after_left = hidden.is_in.after_left;
          before_right = hidden.is_in.before_right;
          above_bottom = hidden.is_in.above_bottom;
        };
      })
      | inr from ↦ elim (cases_lt passed hidden.index) [
        | inl later ↦ (let next = slice_get-get_or anchors passed hidden.anchor (omega (arith, slice_get_within anchors hidden.index hidden.anchor hidden.is_anchor)) in
            absurd (rest _ next (before-trans _ _ _ (sorted passed hidden.index _ _ later next hidden.is_anchor) before)))
        | inr at ↦ (let e : hidden.index ≡ passed = omega arith in
            absurd (rest hidden.anchor (subst (λ k. slice_get anchors k ≡ Some hidden.anchor) e hidden.is_anchor) before))
      ]
    ]

-- what a step of the sweep answers
pub hidden-at : (max_tree : MaxTree) (columns : ℕ) (slice anchors : List Anchor) (passed : ℕ) (p : Position) (end : ℕ)
    → slice ≡ anchors → IsSorted anchors → HoldsEnds max_tree columns slice passed → AllBefore slice passed p
    → ((a : Anchor) → slice_get slice passed ≡ Some a → IsBefore a.position p → ⊥)
    → p.row < 2 ^ 64 - 1 → p.col < columns → end ≡ end_at max_tree p.col
    → IsTrue (nat_lt p.row end) ↔ IsHidden anchors p
hidden-at max_tree columns slice anchors passed p end same sorted holds before rest row col e =
    let at : end ≡ swept_end_of anchors passed p.col = e ∙ subst (λ s. HoldsEnds max_tree columns s passed) same holds p.col col in (
      (λ t. let below : p.row < end = ltb-true p.row end t in
          hidden-above anchors passed p (subst (λ s. AllBefore s passed p) same before) (subst (λ n. p.row < n) at below)),
      (λ hidden. lt-ltb p.row end (subst (λ n. p.row < n) (sym at)
          (above-hidden anchors passed p sorted (subst (λ s. (a : Anchor) → slice_get s passed ≡ Some a → IsBefore a.position p → ⊥) same rest) row hidden))),
    )
