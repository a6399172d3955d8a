use Rattle.std.proofs.Common.{sym, ◌∙◌}
use Rattle.papergrid_text.proofs.PartLemmas.{toned_base}
use Rattle.papergrid_text.proofs.width.base.is_toned_base.Goals as goal

pub returns-then-is_common_toned : goal.returns-then-is_common_toned
returns-then-is_common_toned c = c.if-is_common_toned.true ∙ sym (toned_base c.args.c (sym c.is_common_toned.ensures ∙ c.if-is_common_toned.true))
