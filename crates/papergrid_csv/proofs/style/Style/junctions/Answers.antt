use Rattle.std.proofs.Common.{subst}
use Rattle.std.specs.Prelude.{MatchOption}
use Rattle.papergrid_draw.specs.Crossings.{AreOfFrame}
use Rattle.papergrid_draw.specs.declared.crossings.Junctions.{Junctions}
use Rattle.papergrid_csv.specs.Styles.{fitting_frame}
use Rattle.papergrid_csv.proofs.StyleLemmas.{fitting-separates, junctions-of}
use Rattle.papergrid_csv.proofs.style.Style.junctions.Goals as goal

pub returns-clause-crossings : goal.returns-clause-crossings
returns-clause-crossings c =
    subst (λ frame. MatchOption c.of_frame.result ((junctions : Junctions) → AreOfFrame frame junctions → ⊥) (AreOfFrame frame)) c.fitting_frame.ensures c.of_frame.ensures

pub returns-clause-separators : goal.returns-clause-separators
returns-clause-separators c = junctions-of c.of_frame.result (fitting_frame c.args.self) (returns-clause-crossings c) (fitting-separates c.args.self)
