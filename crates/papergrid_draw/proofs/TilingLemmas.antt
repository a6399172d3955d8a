-- A walk over the positions of a table that checks that each has just one owner, step by step.
use Rattle.std.proofs.Common.{◌≡◌, ◌≢◌, ◌∙◌, ap, sym, subst, refl, inl, inr, ℕ, ◌+◌, ◌<◌, ◌≤◌, ◌⊎◌, Bool, true, false, None, Some, List, replicate, arith}
use Rattle.std.specs.Prelude.{if◌then◌else◌, slice_index}
use Rattle.std.proofs.lemmas.Bool.{cases_eq, cases_lt}
use Rattle.std.proofs.lemmas.List.{get_or-replicate, length-replicate}
use Rattle.std.proofs.lemmas.Option.{none-some, same_Some}
use Rattle.papergrid_values.specs.Positions.{IsBefore, position_of}
use Rattle.papergrid_values.specs.declared.direction.Direction.TheVariants.{Columns, Rows}
use Rattle.papergrid_values.specs.declared.position.Position.{Position}
use Rattle.papergrid_maps.specs.Grids.{Grid}
use Rattle.papergrid_maps.specs.Hidden.{AreAnchorsOf}
use Rattle.papergrid_maps.specs.Spans.{IsInRectangle}
use Rattle.papergrid_maps.specs.declared.anchors.Anchor.{Anchor}
use Rattle.papergrid_maps.proofs.HiddenLemmas.{not-hidden-visible, position-same}
use Rattle.papergrid_walk.specs.ForProofs.Shown.{anchor_in}
use Rattle.papergrid_walk.specs.ForProofs.Visits.{shows_turn}
use Rattle.papergrid_layout.specs.Places.{IsVisibleCell, TableView}
use Rattle.papergrid_draw.specs.Tiles.{AreWithin, IsTablePosition, IsOwnedOnce, IsTileFault, IsTiled, Owns}
use Rattle.papergrid_draw.specs.declared.error.DrawError.TheVariants.{NotTiled}
use Rattle.papergrid_draw.specs.declared.tiles.Tiling.{Tiling}
use Rattle.papergrid_draw.specs.ForProofs.Tiles.{AreFree, AreOwnedBefore, AreRaised, HasTiled, IsOwnedUntil, IsUntil, OwnsBefore}
use Rattle.papergrid_layout.proofs.PlacingLemmas.{before-step, before-turn}

-- ---- order

pub not-before : (p : Position) → IsBefore p p → ⊥
not-before p (inl above) = omega (arith, above)
not-before p (inr left) = let l : p.col < p.col = left.1 in omega arith

pub none-first : (p : Position) → IsBefore p (position_of (0, 0)) → ⊥
none-first p (inl above) = omega (arith, above)
none-first p (inr left) = let l : p.col < 0 = left.1 in omega arith

-- what stands before column d stands before column c, or in the columns between
before-split : (p : Position) (r c d : ℕ) → IsBefore p (position_of (r, d)) → IsBefore p (position_of (r, c)) ⊎ ((p.row ≡ r) × (c ≤ p.col) × (p.col < d))
before-split p r c d (inl above) = inl (inl above)
before-split p r c d (inr left) = elim (cases_lt p.col c) [
  | inl l ↦ inl (inr (left.0, l))
  | inr from ↦ inr (left.0, from, left.1)
]

before-next : (p : Position) (r c : ℕ) → IsBefore p (position_of (r, c + 1)) → IsBefore p (position_of (r, c)) ⊎ (p ≡ position_of (r, c))
before-next p r c before = elim (before-split p r c (c + 1) before) [
  | inl earlier ↦ inl earlier
  | inr same ↦ (let from : c ≤ p.col = same.1 in
      let to : p.col < c + 1 = same.2 in
      inr (position-same p (position_of (r, c)) same.0 (omega arith)))
]

-- ---- what a position hides

-- a visible position lies in no rectangle of another
pub hides : (grid : Grid) (anchors : List Anchor) (p q : Position) → AreAnchorsOf grid anchors → p ≢ q → IsInRectangle grid.span p q → grid.shows q ≡ true → ⊥
hides grid anchors p q are other within shown =
    not-hidden-visible grid.span anchors q are.spans ((are.hide q).0 shown) p other within

-- ---- what is found of a position

found-shown : {A : Type 0} (shows : Bool) (x found : A) → Some found ≡ (if shows then Some x else None) → (shows ≡ true) × (found ≡ x)
found-shown true x found e = (refl, same_Some found x e)
found-shown false x found e = absurd (none-some found (sym e))

-- ---- the walk

module _ (table : TableView) where
  -- where the number says that none covers the column
  until-none : (r c d end : ℕ) → IsUntil table r c d end → end ≤ r → (p : Position) → OwnsBefore table r c d p → ⊥
  until-none r c d end (inl none) past p owns = none.1 p owns
  until-none r c d end (inr one) past p owns =
      let bottom : r < one.0.row + table.grid.span Rows one.0 = one.1.it.owns.covers.above_bottom in
      let ends : end ≡ one.0.row + table.grid.span Rows one.0 = one.1.ends in
      omega arith

  -- where it says that one does
  until-one : (r c d end : ℕ) → IsUntil table r c d end → r < end → (p : Position) × IsOwnedUntil table r c d end p
  until-one r c d end (inl none) below = let past : end ≤ r = none.0 in absurd (omega arith)
  until-one r c d end (inr one) below = one

  -- at the first position
  pub owned-first : (n : ℕ) → n ≡ table.shape.1 → AreOwnedBefore table 0 0 (replicate n 0)
  owned-first n many = record {
    each = length-replicate n 0 ∙ many;
    are = λ d in_row.
        let zero_at : slice_index (replicate n 0) d ≡ 0 = get_or-replicate n d 0 0 (omega (arith, many)) in
        inl (omega arith, λ p owns. none-first p owns.before);
    once = λ q inside before. absurd (none-first q before);
  }

  -- at the end of a row
  owned-turn-at : (r d end : ℕ) → d < table.shape.1 → IsUntil table r table.shape.1 d end → IsUntil table (r + 1) 0 d end
  owned-turn-at r d end in_row until =
      let back : (p : Position) → OwnsBefore table (r + 1) 0 d p → OwnsBefore table r table.shape.1 d p = λ p owns.
      let side : p.col ≤ d = owns.owns.covers.after_left in
      let bottom : r + 1 < p.row + table.grid.span Rows p = owns.owns.covers.above_bottom in
      let before = before-turn p r table.shape.1 (omega arith) owns.before in
      let top : p.row ≤ r = elim before [ inl above ↦ omega (arith, above) | inr left ↦ omega (arith, left.0) ] in
      record {
        owns = record {
          visible = owns.owns.visible;
          covers = record {
            below_top = top;
            above_bottom = omega arith;
            after_left = side;
            before_right = owns.owns.covers.before_right;
          };
        };
        before = before;
      } in
      elim (cases_lt (r + 1) end) [
        | inl below ↦ (let one = until-one r table.shape.1 d end until (omega arith) in
            let p = one.0 in
            let ends : end ≡ p.row + table.grid.span Rows p = one.1.ends in
            let top : p.row ≤ r = one.1.it.owns.covers.below_top in
            inr (
              p,
              record {
                it = record {
                  owns = record {
                    visible = one.1.it.owns.visible;
                    covers = record {
                      below_top = omega arith;
                      above_bottom = omega arith;
                      after_left = one.1.it.owns.covers.after_left;
                      before_right = one.1.it.owns.covers.before_right;
                    };
                  };
                  before = inl (omega arith);
                };
                ends = ends;
                alone = λ other owns. one.1.alone other (back other owns);
              },
            ))
        | inr past ↦ inl (
          past,
          λ p owns.
              let bottom : r + 1 < p.row + table.grid.span Rows p = owns.owns.covers.above_bottom in
              elim (cases_lt r end) [
                | inl below ↦ (let one = until-one r table.shape.1 d end until below in
                    let same : p ≡ one.0 = one.1.alone p (back p owns) in
                    let ends : end ≡ p.row + table.grid.span Rows p = subst (λ (q : Position). end ≡ q.row + table.grid.span Rows q) (sym same) one.1.ends in
                    omega arith)
                | inr above ↦ until-none r table.shape.1 d end until above p (back p owns)
              ],
        )
      ]

  pub owned-turn : (r c : ℕ) (until : List ℕ) → c ≡ table.shape.1 → AreOwnedBefore table r c until → AreOwnedBefore table (r + 1) 0 until
  owned-turn r c until end owned =
      let at_end : AreOwnedBefore table r table.shape.1 until = subst (λ k. AreOwnedBefore table r k until) end owned in
      record {
        each = owned.each;
        are = λ d in_row. owned-turn-at r d (slice_index until d) in_row (at_end.are d in_row);
        once = λ q inside before. at_end.once q inside (before-turn q r table.shape.1 inside.1 before);
      }

  -- at the end of the table
  pub all-owned : (until : List ℕ) → AreWithin table → AreOwnedBefore table table.shape.0 0 until → IsTiled table
  all-owned until within owned = record { within = within; once = λ q inside. owned.once q inside (inl inside.0) }

  -- what covers a position stands at it or before it
  covers-before : (p : Position) (r c : ℕ) → Owns table p (position_of (r, c)) → IsBefore p (position_of (r, c + 1))
  covers-before p r c owns =
      let top : p.row ≤ r = owns.covers.below_top in
      let side : p.col ≤ c = owns.covers.after_left in
      elim (cases_lt p.row r) [
        | inl above ↦ inl above
        | inr level ↦ inr (omega arith, omega arith)
      ]

  -- a visible cell of the table ends in it, where all do
  pub cell-ends : (p : Position) → AreWithin table → IsTablePosition table p → table.grid.shows p ≡ true →
      (p.col + table.grid.span Columns p ≤ table.shape.1) × (p.row + table.grid.span Rows p ≤ table.shape.0)
  cell-ends p within inside shown =
      let cell : IsVisibleCell table p = record { visible = shown; row_in = inside.0; col_in = inside.1 } in (
        elim (cases_lt table.shape.1 (p.col + table.grid.span Columns p)) [
          | inl out ↦ absurd (within p (cell, Columns, out))
          | inr ends ↦ ends
        ],
        elim (cases_lt table.shape.0 (p.row + table.grid.span Rows p)) [
          | inl out ↦ absurd (within p (cell, Rows, out))
          | inr ends ↦ ends
        ],
      )

  -- the visible cell that is found at one
  pub found-ends : (p : Position) (anchor : Anchor) → AreWithin table → IsTablePosition table p →
      Some anchor ≡ (if table.grid.shows p then Some (anchor_in table.grid p) else None) →
      (table.grid.shows p ≡ true) × (anchor ≡ anchor_in table.grid p)
      × (p.col + anchor.cols ≤ table.shape.1) × (p.row + anchor.rows ≤ table.shape.0)
  found-ends p anchor within inside is =
      let found = found-shown (table.grid.shows p) (anchor_in table.grid p) anchor is in
      let ends = cell-ends p within inside found.0 in
      let back : anchor_in table.grid p ≡ anchor = sym found.1 in (
        found.0,
        found.1,
        subst (λ (a : Anchor). p.col + a.cols ≤ table.shape.1) back ends.0,
        subst (λ (a : Anchor). p.row + a.rows ≤ table.shape.0) back ends.1,
      )

  -- the walk at the end of a row
  pub tiled-turn : (r c : ℕ) (tiling : Tiling) → c ≡ table.shape.1 → HasTiled table r c tiling → HasTiled table (r + 1) 0 tiling
  tiled-turn r c tiling end has = record {
    fits = has.fits;
    within = has.within;
    shows = shows_turn table.grid tiling.sweep r c has.shows;
    owned = owned-turn r c tiling.until.items end has.owned;
  }

  module _ (anchors : List Anchor) (known : AreAnchorsOf table.grid anchors) where
    -- past a position that a cell covers which stands before it
    pub owned-pass : (r c : ℕ) (until : List ℕ) → c < table.shape.1 → r < slice_index until c → AreOwnedBefore table r c until → AreOwnedBefore table r (c + 1) until
    owned-pass r c until in_row below owned =
        let one = until-one r c c (slice_index until c) (owned.are c in_row) below in
        let here = position_of (r, c) in
        let hidden : table.grid.shows here ≡ true → ⊥ = λ shown.
        hides table.grid anchors one.0 here known (λ same. not-before here (subst (λ q. IsBefore q here) same one.1.it.before)) one.1.it.owns.covers shown in
        let earlier : (p : Position) → table.grid.shows p ≡ true → IsBefore p (position_of (r, c + 1)) → IsBefore p here = λ p shown before.
        elim (before-next p r c before) [
          | inl before ↦ before
          | inr same ↦ absurd (hidden (subst (λ q. table.grid.shows q ≡ true) same shown))
        ] in
        let back : (d : ℕ) (p : Position) → OwnsBefore table r (c + 1) d p → OwnsBefore table r c d p = λ d p owns.
        record { owns = owns.owns; before = earlier p owns.owns.visible owns.before } in
        record {
          each = owned.each;
          are = λ d d_in. elim (owned.are d d_in) [
            | inl none ↦ inl (none.0, λ p owns. none.1 p (back d p owns))
            | inr some ↦ inr (
              some.0,
              record {
                it = record { owns = some.1.it.owns; before = before-step some.0 r c some.1.it.before };
                ends = some.1.ends;
                alone = λ other owns. some.1.alone other (back d other owns);
              },
            )
          ];
          once = λ q inside before. elim (before-next q r c before) [
            | inl before ↦ owned.once q inside before
            | inr same ↦ subst (IsOwnedOnce table) (sym same) (
              one.0,
              one.1.it.owns,
              λ other owns.
                  one.1.alone other (back c other (record {
                    owns = owns;
                    before = covers-before other r c owns;
                  })),
            )
          ];
        }

    -- the cell at a position covers it and those right of it alone, where none before it does
    own-alone : (r c d : ℕ) → table.grid.shows (position_of (r, c)) ≡ true → c ≤ d → d < c + table.grid.span Columns (position_of (r, c)) →
        ((p : Position) → OwnsBefore table r c d p → ⊥) →
        Owns table (position_of (r, c)) (position_of (r, d)) × ((other : Position) → Owns table other (position_of (r, d)) → other ≡ position_of (r, c))
    own-alone r c d shown from to none =
        let here = position_of (r, c) in
        let high : 1 ≤ table.grid.span Rows here = known.from_one Rows here in (
          record {
            visible = shown;
            covers = record { below_top = omega arith; above_bottom = omega arith; after_left = from; before_right = to };
          },
          (λ other owns.
              let top : other.row ≤ r = owns.covers.below_top in
              let side : other.col ≤ d = owns.covers.after_left in
              elim (cases_lt other.row r) [
                | inl above ↦ absurd (none other (record { owns = owns; before = inl above }))
                | inr level ↦
                    let row : other.row ≡ r = omega arith in
                    elim (cases_lt other.col c) [
                      | inl left ↦ absurd (none other (record { owns = owns; before = inr (row, left) }))
                      | inr right ↦ elim (cases_eq other.col c) [
                        | inl same ↦ position-same other here row same
                        | inr apart ↦ absurd (hides table.grid anchors here other known (λ e. apart (sym (ap (λ (q : Position). q.col) e)))
                            (record { below_top = omega arith; above_bottom = omega arith; after_left = right; before_right = omega arith }) owns.visible)
                      ]
                    ]
              ]),
        )

    -- past a visible position, where no cell before it covers the columns of its cell
    pub owned-own : (r c : ℕ) (until next : List ℕ) → let here = position_of (r, c) in
        table.grid.shows here ≡ true → c + table.grid.span Columns here ≤ table.shape.1 →
        AreFree until r c (c + table.grid.span Columns here) →
        AreRaised until next c (c + table.grid.span Columns here) (r + table.grid.span Rows here) →
        AreOwnedBefore table r c until → AreOwnedBefore table r (c + 1) next
    owned-own r c until next shown ends free raised owned =
        let here = position_of (r, c) in
        let none : (d : ℕ) → c ≤ d → d < c + table.grid.span Columns here → (p : Position) → OwnsBefore table r c d p → ⊥ =
        λ d from to. until-none r c d (slice_index until d) (owned.are d (omega arith)) (free d from to) in
        let out : (d : ℕ) → (d < c) ⊎ (c + table.grid.span Columns here ≤ d) → (p : Position) → OwnsBefore table r (c + 1) d p → OwnsBefore table r c d p =
        λ d side p owns. elim (before-next p r c owns.before) [
          | inl before ↦ record { owns = owns.owns; before = before }
          | inr same ↦ (let own = subst (λ q. Owns table q (position_of (r, d))) same owns.owns in
              let from : c ≤ d = own.covers.after_left in
              let to : d < c + table.grid.span Columns here = own.covers.before_right in
              absurd (elim side [ inl left ↦ omega (arith, left) | inr right ↦ omega (arith, right) ]))
        ] in
        let kept : (d : ℕ) → d < table.shape.1 → (d < c) ⊎ (c + table.grid.span Columns here ≤ d) → IsUntil table r (c + 1) d (slice_index next d) =
        λ d d_in side. subst (IsUntil table r (c + 1) d) (sym (raised.outside d side)) (elim (owned.are d d_in) as (λ u. IsUntil table r (c + 1) d (slice_index until d)) [
          | inl none ↦ inl (none.0, λ p owns. none.1 p (out d side p owns))
          | inr some ↦ inr (
            some.0,
            record {
              it = record { owns = some.1.it.owns; before = before-step some.0 r c some.1.it.before };
              ends = some.1.ends;
              alone = λ other owns. some.1.alone other (out d side other owns);
            },
          )
        ]) in
        record {
          each = raised.each ∙ owned.each;
          are = λ d d_in. elim (cases_lt d c) [
            | inl left ↦ kept d d_in (inl left)
            | inr from ↦ elim (cases_lt d (c + table.grid.span Columns here)) [
              | inr right ↦ kept d d_in (inr right)
              | inl to ↦ (let alone = own-alone r c d shown from to (none d from to) in
                  inr (
                    here,
                    record {
                      it = record { owns = alone.0; before = inr (refl, omega arith) };
                      ends = raised.inside d from to;
                      alone = λ other owns. alone.1 other owns.owns;
                    },
                  ))
            ]
          ];
          once = λ q inside before. elim (before-next q r c before) [
            | inl before ↦ owned.once q inside before
            | inr same ↦ (let wide : 1 ≤ table.grid.span Columns here = known.from_one Columns here in
                let alone = own-alone r c c shown (omega arith) (omega arith) (none c (omega arith) (omega arith)) in
                subst (IsOwnedOnce table) (sym same) (here, alone.0, alone.1))
          ];
        }

    -- the first column of a visible cell that a cell before it covers is the first that is covered by two
    pub fault-two : (r c d : ℕ) (until : List ℕ) → let here = position_of (r, c) in
        IsTablePosition table here → AreWithin table → table.grid.shows here ≡ true → c ≤ d → d < c + table.grid.span Columns here →
        AreFree until r c d → r < slice_index until d →
        AreOwnedBefore table r c until → IsTileFault table (NotTiled (position_of (r, d)))
    fault-two r c d until inside within shown from to free below owned =
        let here = position_of (r, c) in
        let high : 1 ≤ table.grid.span Rows here = known.from_one Rows here in
        let ends : c + table.grid.span Columns here ≤ table.shape.1 = (cell-ends here within inside shown).0 in
        let one = until-one r c d (slice_index until d) (owned.are d (omega arith)) below in
        let own : Owns table here (position_of (r, d)) = record {
          visible = shown;
          covers = record { below_top = omega arith; above_bottom = omega arith; after_left = from; before_right = to };
        } in (
          within,
          record {
            it = (
              (inside.0, omega arith),
              λ once.
                  let same : one.0 ≡ here = once.2 one.0 one.1.it.owns ∙ sym (once.2 here own) in
                  not-before here (subst (λ q. IsBefore q here) same one.1.it.before),
            );
            earlier = λ q before untiled. elim (before-split q r c d before) [
              | inl earlier ↦ untiled.1 (owned.once q untiled.0 earlier)
              | inr level ↦ (let left : c ≤ q.col = level.1 in
                  let right : q.col < d = level.2 in
                  let alone = own-alone r c q.col shown left (omega arith)
                  (until-none r c q.col (slice_index until q.col) (owned.are q.col (omega arith)) (free q.col left right)) in
                  untiled.1 (subst (IsOwnedOnce table) (sym (position-same q (position_of (r, q.col)) level.0 refl)) (here, alone.0, alone.1)))
            ];
          },
        )
