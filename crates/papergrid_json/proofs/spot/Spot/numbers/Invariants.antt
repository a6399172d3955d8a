use Rattle.std.specs.Prelude.{option_and_then}
use Rattle.serde_json.specs.Find.{as_array}
use Rattle.papergrid_json.specs.ForProofs.Reading.{found}
use Rattle.papergrid_json.specs.Spots.{list_at, number_at}
use Rattle.papergrid_json.proofs.EachLemmas.{IsReadTo}
use Rattle.papergrid_json.proofs.spot.Spot.numbers.Given as goal

abbrev pub invariant-loop-index : goal.invariant-loop-index
invariant-loop-index l =
    let here = found l.self in
    IsReadTo number_at here (option_and_then as_array here) (list_at number_at here) l.numbers.items l.index l.count
