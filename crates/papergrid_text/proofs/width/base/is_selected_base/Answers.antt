use Rattle.std.proofs.Common.{sym, ◌∙◌}
use Rattle.papergrid_text.proofs.PartLemmas.{selected_base}
use Rattle.papergrid_text.proofs.width.base.is_selected_base.Goals as goal

pub returns-then-is_common_selected : goal.returns-then-is_common_selected
returns-then-is_common_selected c = c.if-is_common_selected.true ∙ sym (selected_base c.args.c (sym c.is_common_selected.ensures ∙ c.if-is_common_selected.true))
