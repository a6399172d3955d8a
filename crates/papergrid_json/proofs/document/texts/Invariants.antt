use Rattle.std.proofs.Common.{◌≡◌, map, string_bytes}
use Rattle.serde_json.specs.View.{items_view}
use Rattle.papergrid_json.specs.Spots.{each, text_at}
use Rattle.papergrid_json.proofs.EachLemmas.{behind}
use Rattle.papergrid_json.proofs.document.texts.Given as goal

abbrev pub invariant-loop-cell : goal.invariant-loop-cell
invariant-loop-cell l =
    behind text_at (map string_bytes l.texts.items) (items_view l.cell-iterator.rest.items) ≡ each text_at (items_view l.fn.cells.items)
