use Rattle.std.proofs.Common.{All, List, length, map, subst, sym, true, ◌≡◌}
use Rattle.std.specs.Prelude.{IfOk, MatchOption}
use Rattle.papergrid_config.specs.Applied.{is_in_range}
use Rattle.papergrid_config.specs.declared.setting.Setting.{Setting}
use Rattle.papergrid_csv.specs.Certified.{HasNoSizes}
use Rattle.papergrid_csv.specs.Rows.{row_texts, held_texts}
use Rattle.papergrid_csv.specs.ForProofs.Drawn.{IsSettingsRun}
use Rattle.papergrid_csv.specs.ForProofs.Solved.{AreSettingsSolved}
use Rattle.papergrid_csv.proofs.RequestLemmas.{all-in-range}
use Rattle.papergrid_csv.proofs.certified.certify_shown.Goals as goal

pub certify_settings-requires : goal.certify_settings-requires
certify_settings-requires c =
    subst (All (λ setting. is_in_range setting ≡ true)) (sym c.in_ok-settings.ensures) (all-in-range c.args.request.now c.args.rows.now.columns (held_texts c.args.rows.now.rows))

pub returns : goal.returns
returns c =
    let columns = c.args.rows.now.columns in
    let texts = map row_texts c.args.shown.now in
    subst (λ (settings : List Setting). IfOk c.certify_settings.result (λ found. MatchOption found (HasNoSizes (IsSettingsRun c.args.request.now settings (length c.args.shown.now, columns) columns texts))
    (AreSettingsSolved c.args.request.now settings (length c.args.shown.now, columns) columns texts))) c.in_ok-settings.ensures c.certify_settings.ensures
