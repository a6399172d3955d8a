use Rattle.std.proofs.Common.{◌≡◌, ◌++◌, ◌-◌, map}
use Rattle.std.specs.List.{filter, range_with_len}
use Rattle.papergrid_values.specs.declared.alignment.AlignmentHorizontal.TheVariants.{Right}
use Rattle.papergrid_values.specs.declared.entity.Entity.TheVariants.{Column}
use Rattle.papergrid_config.specs.declared.setting.Setting.TheVariants.{SetAlignmentHorizontal}
use Rattle.papergrid_csv.specs.Numbers.{is_numeric}
use Rattle.papergrid_csv.specs.Rows.{row_texts}
use Rattle.papergrid_csv.proofs.aligned.push_numbers.Given as goal

abbrev pub invariant-loop-column : goal.invariant-loop-column
invariant-loop-column l =
    l.settings.items ++ map (λ column. SetAlignmentHorizontal (Column column) Right) (filter (is_numeric (map row_texts l.below)) (range_with_len l.column (l.columns - l.column)))
    ≡ l.initial.settings.items ++ map (λ column. SetAlignmentHorizontal (Column column) Right) (filter (is_numeric (map row_texts l.below)) (range_with_len 0 l.columns))
