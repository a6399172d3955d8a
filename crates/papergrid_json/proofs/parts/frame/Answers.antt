use Rattle.std.proofs.Common.{rules}
use Rattle.papergrid_json.proofs.PartLemmas.{frame_past, frame_refused}
use Rattle.papergrid_json.proofs.parts.frame.Goals as goal

pub returns-in_err-expect_members : goal.returns-in_err-expect_members
returns-in_err-expect_members g c = search (rules, frame_refused g.T.Told.told_at _ _ c.in_err-expect_members.ensures)

pub returns : goal.returns
returns g c = frame_past _ _ _ c.in_ok-expect_members.ensures c.frame_by_parts.ensures
