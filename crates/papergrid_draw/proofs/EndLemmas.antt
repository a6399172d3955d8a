-- The first visible cell of a table that ends outside, by the anchors.
use Rattle.std.proofs.Common.{◌≡◌, ◌∙◌, ap, sym, subst, inl, inr, ℕ, ◌+◌, ◌<◌, ◌≤◌, List, Some, length, slice_get, arith}
use Rattle.std.proofs.lemmas.Bool.{cases_eq, cases_lt}
use Rattle.std.proofs.lemmas.Option.{same_Some, slice_get_within}
use Rattle.papergrid_values.specs.Positions.{IsBefore}
use Rattle.papergrid_values.specs.declared.direction.Direction.{Direction}
use Rattle.papergrid_values.specs.declared.direction.Direction.TheVariants.{Columns, Rows}
use Rattle.papergrid_values.specs.declared.position.Position.{Position}
use Rattle.papergrid_maps.specs.Anchors.{HasAnchor, IsSorted}
use Rattle.papergrid_maps.specs.Grids.{Grid}
use Rattle.papergrid_maps.specs.Hidden.{AreAnchorsOf}
use Rattle.papergrid_maps.specs.declared.anchors.Anchor.{Anchor}
use Rattle.papergrid_walk.specs.ForProofs.Shown.{Shows}
use Rattle.papergrid_walk.specs.ForProofs.Swept.{Walk}
use Rattle.papergrid_layout.specs.Places.{Overflows, TableView}
use Rattle.papergrid_draw.specs.Tiles.{AreWithin, IsTileFault, EndsOutside}
use Rattle.papergrid_draw.specs.declared.error.DrawError.TheVariants.{OutOfTable}

-- a walk over the anchors has come to number i, and passed no visible cell of the table that ends outside
pub record EndInTable (table : TableView) (anchors : List Anchor) (i : ℕ) (walk : Walk) : Type 0 where
  pub shows : (k : ℕ) (a : Anchor) → i ≤ k → slice_get anchors k ≡ Some a → Shows table.grid walk a.position.row a.position.col
  pub none : (k : ℕ) (a : Anchor) → k < i → slice_get anchors k ≡ Some a → EndsOutside table a.position → ⊥

-- ---- the sweep

-- it may go on at any position from the first on
pub shows-from-first : (grid : Grid) (walk : Walk) (r c : ℕ) → Shows grid walk 0 0 → Shows grid walk r c
shows-from-first grid walk r c shows = record {
  anchors = shows.anchors;
  ahead = λ q down right. shows.ahead q (omega arith) (λ same. omega arith);
}

-- past a position that is not asked for
pub shows-skip : (grid : Grid) (walk : Walk) (r c : ℕ) → Shows grid walk r c → Shows grid walk r (c + 1)
shows-skip grid walk r c shows = record {
  anchors = shows.anchors;
  ahead = λ q down right. shows.ahead q down (λ same. let after : c + 1 ≤ q.col = right same in omega arith);
}

-- and at one that comes after it
shows-after : (grid : Grid) (walk : Walk) (p q : Position) → IsBefore p q → Shows grid walk p.row (p.col + 1) → Shows grid walk q.row q.col
shows-after grid walk p q (inl above) shows = record {
  anchors = shows.anchors;
  ahead = λ s down right. shows.ahead s (omega (arith, above, down)) (λ same. absurd (omega (arith, above, down, same)));
}
shows-after grid walk p q (inr left) shows = record {
  anchors = shows.anchors;
  ahead = λ s down right.
      let level : p.row ≡ q.row = left.0 in
      let beside : p.col < q.col = left.1 in
      shows.ahead s (omega (arith, level, down)) (λ same.
      let after : q.col ≤ s.col = right (sym level ∙ same) in
      omega arith);
}

before-not-after : (p q : Position) → IsBefore p q → IsBefore q p → ⊥
before-not-after p q (inl above) (inl below) = omega (arith, above, below)
before-not-after p q (inl above) (inr right) = omega (arith, above, right.0)
before-not-after p q (inr left) (inl below) = omega (arith, left.0, below)
before-not-after p q (inr left) (inr right) =
    let l : p.col < q.col = left.1 in
    let r : q.col < p.col = right.1 in
    omega arith

module _ (table : TableView) where
  -- ---- which cells end outside

  -- such a cell has an anchor
  over-anchor : (anchors : List Anchor) (p : Position) → AreAnchorsOf table.grid anchors → EndsOutside table p → HasAnchor anchors p
  over-anchor anchors p known over = by_direction over.1 over.2
    where
      by_direction : (d : Direction) → Overflows table p d → HasAnchor anchors p
      by_direction Columns out =
          let inside : p.col < table.shape.1 = over.0.col_in in
          let past : table.shape.1 < p.col + table.grid.span Columns p = out in
          known.spans.has_each Columns p (omega arith)
      by_direction Rows out =
          let inside : p.row < table.shape.0 = over.0.row_in in
          let past : table.shape.0 < p.row + table.grid.span Rows p = out in
          known.spans.has_each Rows p (omega arith)

  -- ---- the walk over the anchors

  pub ends-none : (anchors : List Anchor) (walk : Walk) → Shows table.grid walk 0 0 → EndInTable table anchors 0 walk
  ends-none anchors walk shows = record {
    shows = λ k a from is. shows-from-first table.grid walk a.position.row a.position.col shows;
    none = λ k a below is. absurd (omega (arith, below));
  }

  module _ (anchors : List Anchor) (sorted : IsSorted anchors) (i : ℕ) (a : Anchor) (is : slice_get anchors i ≡ Some a) where
    -- past one that ends in the table, or is hidden
    pub ends-more : (walk next : Walk) → Shows table.grid next a.position.row (a.position.col + 1) → (EndsOutside table a.position → ⊥) →
        EndInTable table anchors i walk → EndInTable table anchors (i + 1) next
    ends-more walk next shows within ends = record {
      shows = λ k b from at. shows-after table.grid next a.position b.position (sorted i k a b (omega (arith, from)) is at) shows;
      none = λ k b below at. elim (cases_lt k i) [
        | inl before ↦ ends.none k b before at
        | inr from ↦ (let same : k ≡ i = omega (arith, below) in
            let own : a ≡ b = same_Some a b (sym is ∙ ap (slice_get anchors) (sym same) ∙ at) in
            subst (λ (c : Anchor). EndsOutside table c.position → ⊥) own within)
      ];
    }

    -- the first that ends outside
    pub ends-found : (walk : Walk) → AreAnchorsOf table.grid anchors → EndsOutside table a.position → EndInTable table anchors i walk →
        IsTileFault table (OutOfTable a.position)
    ends-found walk known over ends = record {
      it = over;
      earlier = λ q before also.
          let has = over-anchor anchors q known also in
          let there : IsBefore has.anchor.position a.position = subst (λ p. IsBefore p a.position) (sym has.is_there) before in
          elim (cases_lt has.index i) [
            | inl passed ↦ ends.none has.index has.anchor passed has.is_anchor (subst (EndsOutside table) (sym has.is_there) also)
            | inr from ↦ elim (cases_eq has.index i) [
              | inl same ↦ (let own : has.anchor ≡ a = same_Some has.anchor a (sym has.is_anchor ∙ ap (slice_get anchors) same ∙ is) in
                  let itself : IsBefore a.position a.position = subst (λ (c : Anchor). IsBefore c.position a.position) own there in
                  before-not-after a.position a.position itself itself)
              | inr apart ↦ before-not-after has.anchor.position a.position there
                  (sorted i has.index a has.anchor (omega (arith, from, apart)) is has.is_anchor)
            ]
          ];
    }

  -- past the last
  pub ends-all : (anchors : List Anchor) (walk : Walk) → AreAnchorsOf table.grid anchors → EndInTable table anchors (length anchors) walk → AreWithin table
  ends-all anchors walk known ends p over =
      let has = over-anchor anchors p known over in
      ends.none has.index has.anchor (slice_get_within anchors has.index has.anchor has.is_anchor) has.is_anchor
      (subst (EndsOutside table) (sym has.is_there) over)
