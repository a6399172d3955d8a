use Rattle.std.proofs.Common.{subst}
use Rattle.papergrid_draw.specs.ForProofs.Plain.{IsPlain}
use Rattle.papergrid_draw.proofs.filled_frame.FilledFrame.draw_rows.Goals as goal

pub draw_plain_rows-requires-clause-plain : goal.draw_plain_rows-requires-clause-plain
draw_plain_rows-requires-clause-plain g c = subst IsPlain c.args.self.now.frame.now.read.config_is (c.is_plain.ensures.0 c.if-is_plain.true)
