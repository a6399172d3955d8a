use Rattle.std.proofs.Common.{◌∙◌, length}
use Rattle.papergrid_csv.proofs.ReadLemmas.{greatest-next, max-of}
use Rattle.papergrid_csv.proofs.reading.greatest_length.Goals as goal

pub loop-row-preserved : goal.loop-row-preserved
loop-row-preserved c =
    greatest-next c.args.rows.now c.loop-row.row-index c.row-item.result c.loop-row.greatest c.max-greatest.result c.loop-row-test.true c.row-item.is c.loop-row.invariant
    (c.max-greatest.ensures ∙ max-of c.loop-row.greatest c.len.result (length c.row-item.result.items) (c.len.ensures ∙ c.row-item.result.ok.0))
