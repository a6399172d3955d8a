use Rattle.std.proofs.Common.{◌∙◌, None, Some, ap}
use Rattle.papergrid_draw.proofs.LentLemmas.{made_at}
use Rattle.papergrid_draw.proofs.cells.RefSliceTextRow.text.Goals as goal

pub returns-in-Some : goal.returns-in-Some
returns-in-Some g c =
    ap Some c.as_str.ensures ∙ made_at g.S.AsStr.text c.args.self.now.now c.args.column (Some c.in-Some.text) c.in-Some.ensures.lookup

pub returns-in-None : goal.returns-in-None
returns-in-None g c = made_at g.S.AsStr.text c.args.self.now.now c.args.column None c.in-None.ensures.lookup
