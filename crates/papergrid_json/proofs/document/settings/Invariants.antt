use Rattle.std.proofs.Common.{◌≡◌, ◌<◌, ℕ, true}
use Rattle.std.specs.Prelude.{is_some}
use Rattle.papergrid_json.specs.Documents.{accepted_at, items_at, optional_list_at}
use Rattle.papergrid_json.specs.ForProofs.Reading.{found}
use Rattle.papergrid_json.specs.Spots.{item_at}
use Rattle.papergrid_json.proofs.EachLemmas.{IsReadTo}
use Rattle.papergrid_json.proofs.document.settings.Given as goal

abbrev pub invariant-loop-index : goal.invariant-loop-index
invariant-loop-index l =
    let here = found l.spot in
    IsReadTo accepted_at here (items_at here) (optional_list_at accepted_at here) l.settings.items l.index l.index-end
    × ((k : ℕ) → k < l.index → is_some (accepted_at (item_at k here)) ≡ true)
