use Rattle.std.proofs.Common.{subst}
use Rattle.papergrid_draw.proofs.SheetLemmas.{cut-one, writes-one}
use Rattle.papergrid_draw.proofs.sheet.Sheet.end.Goals as goal

pub returns-in-Ok-clause-bytes : goal.returns-in-Ok-clause-bytes
returns-in-Ok-clause-bytes g c =
    writes-one g.D.Delivery.takes g.D.Delivery.breaks _ _ _ (subst (λ text. g.D.Delivery.takes c.args.writer.now text c.deliver.new.writer) c.as_str.ensures.value c.in-Ok.ensures.ok)

pub returns-in-Err-clause-bytes : goal.returns-in-Err-clause-bytes
returns-in-Err-clause-bytes g c =
    cut-one g.D.Delivery.takes g.D.Delivery.breaks _ _ _ (subst (λ text. g.D.Delivery.breaks c.args.writer.now text c.deliver.new.writer) c.as_str.ensures.value c.in-Err.ensures.err)
