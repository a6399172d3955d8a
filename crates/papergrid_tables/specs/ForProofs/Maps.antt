-- What a step on a map by position leaves at each position.
use Rattle.std.specs.Prelude.{◌≡◌, Bool, if◌then◌else◌, Option, None}
use Rattle.std.specs.HashMap.{HashMap, get}
use Rattle.std.specs.Option.{option_or}
use Rattle.papergrid_values.specs.declared.position.Position.{Position}
use Rattle.papergrid_values.specs.MapKeys.{position_eq}

module _ {X S : Type 0} where
  -- what was there
  abbrev pub HoldsAsBefore : HashMap Position X S → HashMap Position X S → Type 0
  HoldsAsBefore old new = (p : Position) → get position_eq new p ≡ get position_eq old p

  -- the parts that are set, and elsewhere what was there
  abbrev pub Gains : (Position → Option X) → HashMap Position X S → HashMap Position X S → Type 0
  Gains parts old new = (p : Position) → get position_eq new p ≡ option_or (parts p) (get position_eq old p)

  -- nothing where the test passes, and elsewhere what was there
  abbrev pub Loses : (Position → Bool) → HashMap Position X S → HashMap Position X S → Type 0
  Loses test old new = (p : Position) → get position_eq new p ≡ (if test p then None else get position_eq old p)
