use Rattle.std.proofs.Common.{[], subst, sym}
use Rattle.std.specs.List.{each_same}
use Rattle.papergrid_config.specs.History.{HasSettingHistory}
use Rattle.papergrid_json.specs.Documents.{AreInRange}
use Rattle.papergrid_json.proofs.drawing.configuration.Goals as goal

pub apply_all-requires : goal.apply_all-requires
apply_all-requires c = subst AreInRange (sym (each_same c.args.settings.now.items c.in_ok-copies.copies.items c.in_ok-copies.ensures.cases.0)) c.requires

pub returns-in-Ok : goal.returns-in-Ok
returns-in-Ok c =
    let same = each_same c.args.settings.now.items c.in_ok-copies.copies.items c.in_ok-copies.ensures.cases.0 in
    subst (λ settings. HasSettingHistory settings c.apply_all.new.self) same (c.in-Ok.ensures.ok [] c.new-config.ensures)
