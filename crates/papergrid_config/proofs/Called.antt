-- What is told of a call is told of the setting that is the call.
use Rattle.std.proofs.Common.{◌≡◌, [], ◌∷◌, true, Result, subst, sym}
use Rattle.std.specs.Prelude.{IsOk, OnErr, OnOk}
use Rattle.papergrid_config.specs.Applied.{is_free}
use Rattle.papergrid_config.specs.Changed.{changed_by}
use Rattle.papergrid_config.specs.History.{AddsSetting}
use Rattle.papergrid_config.specs.declared.setting.Setting.{Setting}
use Rattle.papergrid_config.specs.declared.spanned.SpannedConfig.{SpannedConfig}

-- what is told of a call, of the setting that it is
abbrev pub Applies : {T E : Type 0} → SpannedConfig → SpannedConfig → Result T E → Setting → Type 0
Applies old new result setting = record {
  ok : OnOk result (AddsSetting old new setting);
  err : OnErr result (new ≡ old);
  free : is_free setting ≡ true → IsOk result;
  others : new ≡ changed_by (setting ∷ []) old new;
}

pub applied : {T E : Type 0} (old new : SpannedConfig) (result : Result T E) {setting call : Setting} → setting ≡ call → OnOk result (AddsSetting old new call) → OnErr result (new ≡ old) →
    new ≡ changed_by (call ∷ []) old new → (is_free call ≡ true → IsOk result) → Applies old new result setting
applied old new result is ok err others free = subst (Applies old new result) (sym is) (record { ok = ok; err = err; free = free; others = others })
