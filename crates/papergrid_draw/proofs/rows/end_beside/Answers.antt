use Rattle.std.proofs.Common.{◌∙◌, ◌++◌, ap, subst, string_bytes}
use Rattle.std.proofs.lemmas.Result.{err_from_is_err_and}
use Rattle.papergrid_config.specs.declared.spanned.SpannedConfig.{SpannedConfig}
use Rattle.papergrid_draw.specs.ForProofs.Sheets.{Writes}
use Rattle.papergrid_draw.proofs.SheetLemmas.{cut-memory}
use Rattle.papergrid_draw.proofs.PrinterLemmas.{same-beside}
use Rattle.papergrid_draw.proofs.rows.end_beside.Goals as goal

pub returns-in_err-push_beside-clause-bytes : goal.returns-in_err-push_beside-clause-bytes
returns-in_err-push_beside-clause-bytes g c =
    let p = err_from_is_err_and c.from_residual.result c.from_residual.ensures.1 in
    rw (p.1, p.2) (λ texts. cut-memory g.D.Delivery.takes g.D.Delivery.breaks _ _ _)

pub returns-clause-bytes : goal.returns-clause-bytes
returns-clause-bytes g c = λ texts.
    subst (λ bytes. Writes g.D.Delivery.takes g.D.Delivery.breaks c.args.writer.now
    c.end.new.writer bytes c.end.result)
    (c.in_ok-push_beside.ensures ∙ ap (λ l. string_bytes c.args.sheet.now.line ++ l)
    (same-beside _ _ _ _ _ _ _ _ c.args.sheet.now.written
    (ap (λ m. m.right) (c.get_margin-margin.ensures ∙ ap (λ (k : SpannedConfig). k.margin) c.args.frame.now.read.config_is))
    (c.get_margin_color-color.ensures.right ∙ ap (λ (k : SpannedConfig). k.margin_color.right) c.args.frame.now.read.config_is)
    (ap (λ m. m.right) (c.get_margin_offset-offset.ensures ∙ ap (λ (k : SpannedConfig). k.margin_offset) c.args.frame.now.read.config_is))
    c.args.frame.now.read.high))
    c.end.ensures.bytes
