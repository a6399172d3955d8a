use Rattle.std.proofs.Common.{◌≡◌}
use Rattle.serde_json.specs.View.{items_view}
use Rattle.papergrid_json.specs.Documents.{texts_of_rows}
use Rattle.papergrid_json.specs.Spots.{each, list_at, text_at}
use Rattle.papergrid_json.proofs.EachLemmas.{behind}
use Rattle.papergrid_json.proofs.document.rows_of.Given as goal

abbrev pub invariant-loop-record : goal.invariant-loop-record
invariant-loop-record l =
    behind (list_at text_at) (texts_of_rows l.rows.items) (items_view l.record-iterator.rest.items) ≡ each (list_at text_at) (items_view l.fn.records.items)
