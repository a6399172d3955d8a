use Rattle.std.proofs.Common.{sym, ◌∙◌}
use Rattle.papergrid_json.specs.ForProofs.Reading.{found}
use Rattle.papergrid_json.proofs.UnknownLemmas.{unlike_read}
use Rattle.papergrid_json.proofs.setting.setting.Goals as goal

pub returns-in-None : goal.returns-in-None
returns-in-None c =
    unlike_read c.args.index (found c.args.spot.now) (c.in-Some.name.now, c.in-Some.count) c.unlike_all.result (sym c.in-Some.ensures) (c.in_ok-setting.ensures ∙ c.in-None.is) c.unlike_all.ensures
