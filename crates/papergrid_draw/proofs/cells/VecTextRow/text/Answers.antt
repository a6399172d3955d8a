use Rattle.std.proofs.Common.{◌∙◌, None, Some, ap}
use Rattle.papergrid_draw.proofs.LentLemmas.{made_at}
use Rattle.papergrid_draw.proofs.cells.VecTextRow.text.Goals as goal

pub returns-in-Some : goal.returns-in-Some
returns-in-Some g c =
    let lookup = rw c.deref.ensures.value at c.in-Some.ensures.lookup in
    ap Some c.as_str.ensures ∙ made_at g.S.AsStr.text c.args.self.now.items c.args.column (Some c.in-Some.text) lookup

pub returns-in-None : goal.returns-in-None
returns-in-None g c =
    let lookup = rw c.deref.ensures.value at c.in-None.ensures.lookup in
    made_at g.S.AsStr.text c.args.self.now.items c.args.column None lookup
