use Rattle.std.proofs.Common.{ℕ, List}
use Rattle.papergrid_values.specs.declared.position.Position.{Position}
use Rattle.papergrid_json.specs.Documents.{AreColors, colored_at, items_at, optional_list_at}
use Rattle.papergrid_json.specs.ForProofs.Reading.{found}
use Rattle.papergrid_json.proofs.EachLemmas.{IsReadTo}
use Rattle.papergrid_json.proofs.document.colors.Given as goal

abbrev pub invariant-loop-index : goal.invariant-loop-index
invariant-loop-index l =
    let here = found l.spot in
    (done : List (Position × (List ℕ × List ℕ))) × IsReadTo colored_at here (items_at here) (optional_list_at colored_at here) done l.index l.index-end × AreColors done l.colors
