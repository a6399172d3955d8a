use Rattle.std.proofs.Common.{◌∷◌, ◌++◌, ◌∙◌, ◌≡◌, [], ap, append_assoc, map, refl, subst, sym, true}
use Rattle.std.specs.List.{All}
use Rattle.std.proofs.lemmas.Bool.{false≢true}
use Rattle.std.proofs.lemmas.Iterator.{items_from_drains}
use Rattle.std.proofs.lemmas.Iterator.Adapters.{YieldsList-from_vec}
use Rattle.std.proofs.lemmas.List.{map-append, map-id}
use Rattle.papergrid_config.specs.Applied.{is_free}
use Rattle.papergrid_config.specs.History.{HasSettingHistory}
use Rattle.papergrid_script.specs.declared.script_setting.ScriptSetting.{ScriptSetting}
use Rattle.papergrid_script.specs.Settings.{setting_told}
use Rattle.papergrid_script.proofs.RangeLemmas.{All-at}
use Rattle.papergrid_script.proofs.script_setting.configuration_of.Goals as goal

pub loop-setting-preserved : goal.loop-setting-preserved
loop-setting-preserved c =
    let told = c.in_ok-apply.ensures.told _ c.loop-setting.invariant.0 in
    let settings = c.loop-setting.yielded in (
      subst (λ settings. HasSettingHistory settings c.apply.new.config) (sym (map-append setting_told settings (c.in-Some.setting ∷ []))) told,
      append_assoc settings (c.in-Some.setting ∷ []) _ ∙ ap (λ left. settings ++ left) (sym c.in-Some.ensures.steps.0) ∙ c.loop-setting.invariant.1,
    )

pub returns-in_err-apply-clause-free : goal.returns-in_err-apply-clause-free
returns-in_err-apply-clause-free c = λ all.
    let settings = c.loop-setting.yielded in
    let gives = c.into_iter-setting-iterator.ensures.into_iter_gives in
    let is_free_setting = λ (setting : ScriptSetting). is_free (setting_told setting) ≡ true in
    let split = ap (λ left. settings ++ left) (sym c.in-Some.ensures.steps.0) ∙ c.loop-setting.invariant.1 ∙ gives.0 in
    absurd (false≢true (c.in_err-apply.ensures.free (All-at is_free_setting settings c.in-Some.setting _ (subst (All is_free_setting) (sym split) all))))

pub returns : goal.returns
returns c =
    let gives = c.into_iter-setting-iterator.ensures.into_iter_gives in
    let all = items_from_drains c.loop-setting.yielded (c.loop-setting.setting-iterator, c.loop-setting.yielded_by, λ _. (c.next.new.self, c.in-None.ensures.steps))
    (YieldsList-from_vec c.args.settings.items gives.0 (gives.1 ∙ c.args.settings.ok.0)) in
    record { told = subst (λ settings. HasSettingHistory (map setting_told settings) c.loop-setting.config) (sym (map-id c.loop-setting.yielded) ∙ all) c.loop-setting.invariant.0; free = λ _. refl }
