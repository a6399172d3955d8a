use Rattle.std.proofs.Common.{arith}
use Rattle.std.proofs.lemmas.List.{length-map, map-append}
use Rattle.papergrid_script.proofs.DraftLemmas.{onto_gathered}
use Rattle.papergrid_script.proofs.draft.Draft.add_cell.Goals as goal

pub returns : goal.returns
returns c = grind (arith, length-map, map-append, onto_gathered)
