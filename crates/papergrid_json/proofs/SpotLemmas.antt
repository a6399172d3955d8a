-- The items of a list that stands at a path.
use Rattle.std.proofs.Common.{◌≡◌, ◌∷◌, [], suc, List, length, ap, refl}
use Rattle.serde_json.specs.View.{items_view}
use Rattle.serde_json.specs.declared.value.Value.{Value}
use Rattle.papergrid_json.specs.Spots.{count}

-- as many items as values
pub count-view : (values : List Value) → count (items_view values) ≡ length values
count-view [] = refl
count-view (value ∷ values) = ap suc (count-view values)
