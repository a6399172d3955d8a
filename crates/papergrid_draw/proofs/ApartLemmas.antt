-- Whether separators stand between the texts of a table's cells, by row and then by column.
use Rattle.std.proofs.Common.{◌≡◌, ◌∙◌, ◌⊎◌, ◌↔◌, ℕ, ◌+◌, Bool, true, false, ◌&&◌, ◌||◌, if◌then◌else◌, Option, Some, None, IsTrue, length, ap, refl, sym, subst, inl, inr, arith}
use Rattle.std.proofs.lemmas.Bool.{false≢true}
use Rattle.std.proofs.lemmas.Option.{none-some}
use Rattle.papergrid_values.specs.Positions.{position_of}
use Rattle.papergrid_values.specs.declared.position.Position.{Position}
use Rattle.papergrid_maps.specs.declared.anchors.Anchor.{Anchor}
use Rattle.papergrid_walk.specs.ForProofs.Shown.{anchor_in}
use Rattle.papergrid_layout.specs.Places.{IsVisibleCell, TableView}
use Rattle.papergrid_layout.specs.Tables.{TableParts, view_of}
use Rattle.papergrid_layout.proofs.PlacingLemmas.{before-next, before-row, before-step, before-turn}
use Rattle.papergrid_draw.specs.Drawings.{Drawing, layout_of}
use Rattle.papergrid_draw.specs.Separated.{AreApart}
use Rattle.papergrid_draw.specs.declared.separated.Apart.{Apart}
use Rattle.papergrid_draw.specs.ForProofs.Apart.{AreTested, HoldsBefore, IsCellApartAfter, IsCellApartBefore, IsTested}

-- ---- order

-- ---- a test of each visible cell

module _ (table : TableView) (holds : Position → Type 0) where
  holds-more : (r c : ℕ) (so_far here : Bool) → (IsTrue so_far ↔ HoldsBefore table holds r c) → (IsTrue here ↔ (IsVisibleCell table (position_of (r, c)) → holds (position_of (r, c)))) → IsTrue (so_far && here) ↔ HoldsBefore table holds r (c + 1)
  holds-more r c true true before here = (
    λ e p earlier cell. elim (before-next p r c earlier) [
      | inl less ↦ before.0 refl p less cell
      | inr same ↦ subst (λ q. IsVisibleCell table q → holds q) (sym same) (here.0 refl) cell
    ],
    λ all. refl,
  )
  holds-more r c true false before here =
      (λ e. absurd (false≢true e), λ all. here.1 (λ cell. all (position_of (r, c)) (inr (refl, omega arith)) cell))
  holds-more r c false here before told =
      (λ e. absurd (false≢true e), λ all. before.1 (λ p earlier cell. all p (before-step p r c earlier) cell))

  holds-turn : (r c : ℕ) (so_far : Bool) → c ≡ table.shape.1 → (IsTrue so_far ↔ HoldsBefore table holds r c) → IsTrue so_far ↔ HoldsBefore table holds (r + 1) 0
  holds-turn r c so_far end before = (
    λ e p earlier cell. before.0 e p (before-turn p r c (omega (arith, end, cell.col_in)) earlier) cell,
    λ all. before.1 (λ p earlier cell. all p (before-row p r c earlier) cell),
  )

  holds-all : (r : ℕ) (so_far : Bool) → r ≡ table.shape.0 → (IsTrue so_far ↔ HoldsBefore table holds r 0) → IsTrue so_far ↔ ((p : Position) → IsVisibleCell table p → holds p)
  holds-all r so_far end before =
      (λ e p cell. before.0 e p (inl (omega (arith, end, cell.row_in))) cell, λ all. before.1 (λ p earlier cell. all p cell))

-- ---- both tests

module _ (table : TableView) where
  pub tested-more : (r c : ℕ) (so_far here : Apart) → AreTested table so_far r c → IsTested table here (position_of (r, c)) → AreTested table (record { before = so_far.before && here.before; after = so_far.after && here.after }) r (c + 1)
  tested-more r c so_far here are is = record {
    before = holds-more table (IsCellApartBefore table) r c so_far.before here.before are.before is.before;
    after = holds-more table (IsCellApartAfter table) r c so_far.after here.after are.after is.after;
  }

  pub tested-turn : (r c : ℕ) (so_far : Apart) → c ≡ table.shape.1 → AreTested table so_far r c → AreTested table so_far (r + 1) 0
  tested-turn r c so_far end are = record {
    before = holds-turn table (IsCellApartBefore table) r c so_far.before end are.before;
    after = holds-turn table (IsCellApartAfter table) r c so_far.after end are.after;
  }

  -- where the cell is hidden
  pub tested-hidden : (p : Position) → table.grid.shows p ≡ false → IsTested table (record { before = true; after = true }) p
  tested-hidden p hidden =
      let none : IsVisibleCell table p → ⊥ = λ cell. false≢true (sym hidden ∙ cell.visible) in
      record { before = (λ e cell. absurd (none cell), λ all. refl); after = (λ e cell. absurd (none cell), λ all. refl) }

  -- where it is visible
  pub tested-shown : (p : Position) (apart : Apart) → IsVisibleCell table p → (IsTrue apart.before ↔ IsCellApartBefore table p) → (IsTrue apart.after ↔ IsCellApartAfter table p) → IsTested table apart p
  tested-shown p apart cell before after = record {
    before = (λ e shown. before.0 e, λ all. before.1 (all cell));
    after = (λ e shown. after.0 e, λ all. after.1 (all cell));
  }

-- ---- the cell at a position

found-is : {A : Type 0} (shows : Bool) (x y : A) (found : Option A) → found ≡ (if shows then Some x else None) → found ≡ Some y → (shows ≡ true) × (y ≡ x)
found-is true x y found is some = (refl, cc)
found-is false x y found is some = absurd (none-some y (sym is ∙ some))

-- an anchor that is found is that of the position, and that is visible
pub anchor-found : (table : TableView) (p : Position) (anchor : Anchor) (found : Option Anchor) → found ≡ (if table.grid.shows p then Some (anchor_in table.grid p) else None) → found ≡ Some anchor → (table.grid.shows p ≡ true) × (anchor ≡ anchor_in table.grid p)
anchor-found table p anchor found is some = found-is (table.grid.shows p) (anchor_in table.grid p) anchor found is some

-- ---- both tests of a drawn table

-- a test of one fact or the other
either : {A B : Type 0} (a b : Bool) → (IsTrue a ↔ A) → (IsTrue b ↔ B) → IsTrue (a || b) ↔ (A ⊎ B)
either true b told other = (λ e. inl (told.0 refl), λ fact. refl)
either false b told other = (λ e. inr (other.0 e), λ fact. elim fact [ inl x ↦ absurd (false≢true (told.1 x)) | inr y ↦ other.1 y ])

-- they tell whether its texts stand apart
pub tested-all : (d : Drawing) (parts : TableParts) (apart : Apart) → layout_of d ≡ view_of parts → AreTested (view_of parts) apart (length parts.heights) 0 → IsTrue (apart.before || apart.after) ↔ AreApart d
tested-all d parts apart same are =
    let table = layout_of d in
    let tested : AreTested table apart (length parts.heights) 0 = subst (λ (t : TableView). AreTested t apart (length parts.heights) 0) (sym same) are in
    let end : length parts.heights ≡ table.shape.0 = ap (λ (t : TableView). t.shape.0) (sym same) in
    either apart.before apart.after
    (holds-all table (IsCellApartBefore table) (length parts.heights) apart.before end tested.before)
    (holds-all table (IsCellApartAfter table) (length parts.heights) apart.after end tested.after)

-- the first of two tests, where it is met, and else the second
pub or-first : {A : Type 0} (a b : Bool) → a ≡ true → (IsTrue (a || b) ↔ A) → IsTrue a ↔ A
or-first true b is told = told
or-first false b is told = absurd (false≢true is)

pub or-second : {A : Type 0} (a b : Bool) → a ≡ false → (IsTrue (a || b) ↔ A) → IsTrue b ↔ A
or-second true b is told = absurd (false≢true (sym is))
or-second false b is told = told
