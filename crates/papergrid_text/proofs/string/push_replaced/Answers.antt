use Rattle.std.proofs.Common.{◌∙◌, sym}
use Rattle.papergrid_text.proofs.Tabs.{spaces_if}
use Rattle.papergrid_text.proofs.string.push_replaced.Goals as goal

pub returns-in_ok-push_spaces : goal.returns-in_ok-push_spaces
returns-in_ok-push_spaces c = spaces_if c.args.n c.args.left c.args.c _ _ (sym c.is_replaced.ensures ∙ c.if-is_replaced.true) c.in_ok-push_spaces.ensures
