use Rattle.std.proofs.Common.{ap}
use Rattle.std.specs.Prelude.{is_some, not}
use Rattle.papergrid_draw.specs.Crossings.{AreOfFrame}
use Rattle.papergrid_csv.specs.Styles.{fitting_frame}
use Rattle.papergrid_table.proofs.ChosenLemmas.{judged-said, lacks_crossing}
use Rattle.papergrid_table.proofs.chosen.junctions_of.Goals as goal

pub returns-in-None-clause-crossings : goal.returns-in-None-clause-crossings
returns-in-None-clause-crossings c =
    judged-said (AreOfFrame (fitting_frame c.args.style)) (not (is_some (fitting_frame c.args.style).intersection)) c.said.result c.said.ensures (ap not (lacks_crossing c.args.style c.in-None.ensures.crossings))
