-- The first cell out of the table, by what is kept for both directions.
use Rattle.std.proofs.Common.{◌≡◌, ℕ, ◌+◌, inl, inr, List, [], ◌∷◌, length, map, refl, ap, ap₂, sym, subst, ◌∙◌, arith, nat_lt, eq-eqb, le-ltb, lt-ltb, suc}
use Rattle.std.specs.Prelude.{◌↔◌, All, AllPairs, Option, Some, None, is_some, find}
use Rattle.std.proofs.lemmas.Bool.{cases_Bool, false≢true}
use Rattle.std.proofs.lemmas.List.Elements.{All-head, All-tail}
use Rattle.papergrid_values.specs.declared.per_direction.PerDirection.{PerDirection}
use Rattle.papergrid_values.specs.declared.position.Position.{Position}
use Rattle.papergrid_tracks.specs.declared.demands.Demands.{Demands}
use Rattle.papergrid_values.specs.Positions.{IsBefore}
use Rattle.papergrid_values.specs.declared.direction.Direction.{Direction}
use Rattle.papergrid_values.specs.declared.direction.Direction.TheVariants.{Columns, Rows}
use Rattle.papergrid_tracks.specs.Ranges.{end_of, first_out}
use Rattle.papergrid_tracks.specs.ForProofs.Demands.{AreGathered}
use Rattle.papergrid_tracks.proofs.OutLemmas.{out_kept}
use Rattle.papergrid_walk.specs.Cells.{demand_by, demands_of, visible_cells}
use Rattle.papergrid_maps.specs.Grids.{Grid}
use Rattle.papergrid_walk.specs.ForProofs.Pairs.{AreBothGathered}
use Rattle.papergrid_walk.proofs.Distinct.{AllPairs-visible, Precedes}
use Rattle.papergrid_layout.specs.Answers.{first_out_of_table, overflows}
use Rattle.papergrid_layout.specs.ForProofs.Earlier.{earlier, earlier_of}

before-first : (p q : Position) → IsBefore p q → earlier_of p q ≡ p
before-first p q (inl l) = grind (arith, le-ltb)
before-first p q (inr l) = grind (arith, le-ltb, eq-eqb)

before-second : (p q : Position) → IsBefore p q → earlier_of q p ≡ p
before-second p q (inl l) = rw (lt-ltb p.row q.row l) refl
before-second p q (inr l) = grind (arith, le-ltb, eq-eqb, lt-ltb)

same-first : (p : Position) → earlier_of p p ≡ p
same-first p = rw (le-ltb p.row p.row (omega arith), eq-eqb p.row p.row refl, le-ltb p.col p.col (omega arith)) refl

-- where the earlier of two is none, neither is any
pub neither : (p q : Option Position) → earlier p q ≡ None → (p ≡ None) × (q ≡ None)
neither None q e = (refl, e)
neither (Some p) None e = absurd (false≢true (sym (ap is_some e)))
neither (Some p) (Some q) e = absurd (false≢true (sym (ap is_some e)))

-- the earlier of one position and of later ones
first-stays : (p : Position) (q : Option Position) → ((y : Position) → q ≡ Some y → IsBefore p y) → earlier (Some p) q ≡ Some p
first-stays p None later = refl
first-stays p (Some q) later = ap Some (before-first p q (later q refl))

second-stays : (p : Position) (q : Option Position) → ((y : Position) → q ≡ Some y → IsBefore p y) → earlier q (Some p) ≡ Some p
second-stays p None later = refl
second-stays p (Some q) later = ap Some (before-second p q (later q refl))

module _ {C : Type 0} (grid : Grid) (measure : C → ℕ × ℕ) (columns : ℕ) (cells : List (List C)) where
  -- the first cell that overflows the table is one of the cells
  first_out-from : (P : Position → Type 0) (direction : Direction) (n : ℕ) (xs : List (Position × C)) → All (λ x. P x.0) xs →
      (y : Position) → first_out n (map (demand_by direction grid measure) xs) ≡ Some y → P y
  first_out-from P direction n [] all y e = absurd (false≢true (ap is_some e))
  first_out-from P direction n (x ∷ xs) all y e = elim (cases_Bool (nat_lt n (end_of (demand_by direction grid measure x)))) [
    | inl t ↦ grind (arith, All-head)
    | inr f ↦
        let e' : first_out n (map (demand_by direction grid measure) xs) ≡ Some y = rw f at e in
        first_out-from P direction n xs (All-tail (λ x. P x.0) x xs all) y e'
  ]

  -- of cells in their order, the first that overflows the table along a direction is the earlier of the first along columns
  -- and the first along rows
  earlier-out : (xs : List (Position × C)) → AllPairs Precedes xs →
      earlier (first_out columns (map (demand_by Columns grid measure) xs)) (first_out (length cells) (map (demand_by Rows grid measure) xs)) ≡ find (overflows grid measure columns cells) (map (λ cell. cell.0) xs)
  earlier-out [] precede = refl
  earlier-out (x ∷ xs) precede =
      let rest = earlier-out xs (λ i j d l l'. precede (suc i) (suc j) d (omega arith) (omega arith)) in
      let later : All (λ y. IsBefore x.0 y.0) xs = λ k d l. precede 0 (suc k) d (omega arith) (omega arith) in
      elim (cases_Bool (nat_lt columns (x.0.col + grid.span Columns x.0))) [
        | inl wide ↦ elim (cases_Bool (nat_lt (length cells) (x.0.row + grid.span Rows x.0))) [
          | inl high ↦ rw (wide, high) (ap Some (same-first x.0))
          | inr high ↦ rw (wide, high) (first-stays x.0 (first_out (length cells) (map (demand_by Rows grid measure) xs)) (first_out-from (IsBefore x.0) Rows (length cells) xs later))
        ]
        | inr wide ↦ elim (cases_Bool (nat_lt (length cells) (x.0.row + grid.span Rows x.0))) [
          | inl high ↦ rw (wide, high) (second-stays x.0 (first_out columns (map (demand_by Columns grid measure) xs)) (first_out-from (IsBefore x.0) Columns columns xs later))
          | inr high ↦ rw (wide, high) rest
        ]
      ]

  -- no cell overflows the table exactly where none does along columns, and none along rows
  pub none_overflows : (first_out_of_table grid measure columns cells ≡ None)
      ↔ ((first_out columns (demands_of Columns grid measure cells) ≡ None) × (first_out (length cells) (demands_of Rows grid measure cells) ≡ None))
  none_overflows =
      let either = earlier-out (visible_cells grid cells) (AllPairs-visible grid cells) in (
        (λ none. neither (first_out columns (demands_of Columns grid measure cells)) (first_out (length cells) (demands_of Rows grid measure cells)) (either ∙ none)),
        λ none. sym either ∙ ap₂ earlier none.0 none.1,
      )

  module _ (both : PerDirection Demands) (kept : AreBothGathered grid measure columns cells both) (rows : ℕ) (many : rows ≡ length cells) where
    -- the same of what is kept
    pub out_of_both : earlier (first_out columns both.columns.rest.items) (first_out rows both.rows.rest.items) ≡ first_out_of_table grid measure columns cells
    out_of_both =
        ap (λ n. earlier (first_out columns both.columns.rest.items) (first_out n both.rows.rest.items)) many
        ∙ ap₂ earlier (sym (out_kept columns both.columns (demands_of Columns grid measure cells) kept.wide)) (sym (out_kept (length cells) both.rows (demands_of Rows grid measure cells) kept.high))
        ∙ earlier-out (visible_cells grid cells) (AllPairs-visible grid cells)

    -- where no cell overflows the table, none does along columns, and none along rows
    pub none_out : earlier (first_out columns both.columns.rest.items) (first_out rows both.rows.rest.items) ≡ None →
        (first_out_of_table grid measure columns cells ≡ None) × (first_out columns (demands_of Columns grid measure cells) ≡ None) × (first_out (length cells) (demands_of Rows grid measure cells) ≡ None)
    none_out none = grind (arith, neither, out_of_both, out_kept)

    pub seen_high : AreGathered rows both.rows (demands_of Rows grid measure cells)
    seen_high = subst (λ n. AreGathered n both.rows (demands_of Rows grid measure cells)) (sym many) kept.high
