use Rattle.std.proofs.Common.{arith}
use Rattle.papergrid_script.proofs.DraftLemmas.{begun}
use Rattle.papergrid_script.proofs.draft.Draft.add_row.Goals as goal

pub returns : goal.returns
returns c = grind (arith, begun)
