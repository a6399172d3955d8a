use Rattle.std.proofs.Common.{Some, ap, sym, ◌∙◌}
use Rattle.std.specs.Prelude.{option_map}
use Rattle.papergrid_json.specs.Spots.{count}
use Rattle.papergrid_json.proofs.SpotLemmas.{count-view}
use Rattle.papergrid_json.proofs.spot.Spot.count.Goals as goal

pub returns-in-Some : goal.returns-in-Some
returns-in-Some c = ap Some (sym (count-view c.in-Some.items.now)) ∙ ap (option_map count) c.in-Some.ensures
