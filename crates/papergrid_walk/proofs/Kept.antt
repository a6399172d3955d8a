-- What a cell that is read asks for, where it is visible and where it is not.
use Rattle.std.proofs.Common.{◌≡◌, ◌≤◌, Bool, true, false, List, Option, Some, None, Ok, Err, refl, sym, subst}
use Rattle.std.specs.Prelude.{if◌then◌else◌}
use Rattle.std.specs.declared.result.Result.{Result}
use Rattle.std.specs.Result.{OnOk}
use Rattle.papergrid_values.specs.declared.direction.Direction.TheVariants.{Columns, Rows}
use Rattle.papergrid_values.specs.declared.position.Position.{Position}
use Rattle.papergrid_maps.specs.declared.anchors.Anchor.{Anchor}
use Rattle.papergrid_maps.specs.declared.view.Paddings.{Paddings}
use Rattle.papergrid_maps.specs.Grids.{Grid}
use Rattle.papergrid_maps.specs.Hidden.{AreAnchorsOf}
use Rattle.papergrid_walk.specs.ForProofs.Shown.{anchor_in}

pub on_ok : {A E P : Type 0} (r : Result A E) → P → OnOk r P
on_ok (Ok u) p = p
on_ok (Err e) p = tt

pub none_shown : {X Y : Type 0} {found : Option X} (shows : Bool) (seen : X) (told : Y) → found ≡ (if shows then Some seen else None) → found ≡ None
    → ◌≡◌ {A = Option (X × Y)} None (if shows then Some (seen, told) else None)
none_shown true seen told is none = absurd (cc)
none_shown false seen told is none = refl

pub spans_from_one : (grid : Grid) (p : Position) {anchors : List Anchor} {paddings : Paddings} (seen : Anchor × Paddings) → AreAnchorsOf grid anchors
    → seen ≡ (anchor_in grid p, paddings) → (1 ≤ seen.0.cols) × (1 ≤ seen.0.rows)
spans_from_one grid p seen are is = subst (λ (s : Anchor × Paddings). (1 ≤ s.0.cols) × (1 ≤ s.0.rows)) (sym is) (are.from_one Columns p, are.from_one Rows p)
