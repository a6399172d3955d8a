-- The settings of a script are in range; what holds of all settings of a list holds of each.
use Rattle.std.proofs.Common.{◌≡◌, ◌∷◌, ◌++◌, [], ℕ, List, true, Result, Ok, Err, IfOk, refl, sym, subst}
use Rattle.std.specs.List.{All, AllZip, filter_map}
use Rattle.std.proofs.lemmas.List.Elements.{All-nil, All-cons, All-head, All-tail}
use Rattle.papergrid_config.specs.Applied.{is_in_range}
use Rattle.papergrid_config.specs.declared.setting.Setting.{Setting}
use Rattle.papergrid_script.specs.declared.script.Script.{Script}
use Rattle.papergrid_script.specs.declared.script.ScriptError.{ScriptError}
use Rattle.papergrid_script.specs.declared.script_setting.ScriptSetting.{ScriptSetting}
use Rattle.papergrid_script.specs.declared.script_setting.ScriptSetting.TheVariants.{Padding, ColumnSpan, RowSpan, VerticalLine, HorizontalLine, NoVerticalLine, NoHorizontalLine}
use Rattle.papergrid_script.specs.declared.script_setting.ScriptSetting.TheVariants as script_settings
use Rattle.papergrid_script.specs.Settings.{setting_told}
use Rattle.papergrid_script.specs.Scripts.{IsScript, Table, setting_said}
use Rattle.papergrid_script.specs.Spelling.{Said, Nothing, Columns, Set, Row, Cell, Says, IsSetting, Pad, Colspan, Rowspan, Border, Vline, Hline, Novline, Nohline}

abbrev InRange : Setting → Type 0
InRange setting = is_in_range setting ≡ true

spelled_in_range : (line : List ℕ) (setting : Setting) → IsSetting line setting → InRange setting
spelled_in_range _ _ (Pad spelled rest entity sides is_entity are_sides) = refl
spelled_in_range _ _ (Colspan spelled digits position n is_position is_number) = refl
spelled_in_range _ _ (Rowspan spelled digits position n is_position is_number) = refl
spelled_in_range _ _ (Border x c is_character) = refl
spelled_in_range _ _ (Vline digits x col c is_number is_character) = refl
spelled_in_range _ _ (Hline digits x row c is_number is_character) = refl
spelled_in_range _ _ (Novline digits col is_number) = refl
spelled_in_range _ _ (Nohline digits row is_number) = refl

saids_in_range : (lines : List (List ℕ)) (saids : List Said) → AllZip Says lines saids → All InRange (filter_map setting_said saids)
saids_in_range lines [] each = All-nil InRange
saids_in_range [] (s ∷ saids) each = absurd each
saids_in_range (line ∷ lines) (Nothing ∷ saids) each = saids_in_range lines saids each.1
saids_in_range (line ∷ lines) (Columns n ∷ saids) each = saids_in_range lines saids each.1
saids_in_range (line ∷ lines) (Set setting ∷ saids) each = All-cons InRange setting _ (spelled_in_range line setting each.0.1) (saids_in_range lines saids each.1)
saids_in_range (line ∷ lines) (Row ∷ saids) each = saids_in_range lines saids each.1
saids_in_range (line ∷ lines) (Cell text ∷ saids) each = saids_in_range lines saids each.1

pub settings_in_range : (input : List ℕ) (table : Table) → IsScript input (Ok table) → All InRange table.settings
settings_in_range input table is =
    let describes = is.2 in
    subst (All InRange) (sym describes.settings_all) (saids_in_range is.0 describes.saids describes.each)

told_in_range : (setting : ScriptSetting) → InRange (setting_told setting)
told_in_range (Padding entity sides) = refl
told_in_range (ColumnSpan position count) = refl
told_in_range (RowSpan position count) = refl
told_in_range (script_settings.Border c) = refl
told_in_range (VerticalLine col c) = refl
told_in_range (HorizontalLine row c) = refl
told_in_range (NoVerticalLine col) = refl
told_in_range (NoHorizontalLine row) = refl

all_in_range : (settings : List ScriptSetting) → All (λ setting. InRange (setting_told setting)) settings
all_in_range [] = All-nil (λ setting. InRange (setting_told setting))
all_in_range (setting ∷ settings) = All-cons (λ s. InRange (setting_told s)) setting settings (told_in_range setting) (all_in_range settings)

pub given_in_range : (result : Result Script ScriptError) → IfOk result (λ script. All (λ setting. InRange (setting_told setting)) script.settings.items)
given_in_range (Ok script) = all_in_range script.settings.items
given_in_range (Err error) = tt

pub All-at : {X : Type 0} (P : X → Type 0) (before : List X) (x : X) (after : List X) → All P (before ++ x ∷ after) → P x
All-at P [] x after all = All-head P x after all
All-at P (y ∷ before) x after all = All-at P before x after (All-tail P y (before ++ x ∷ after) all)
