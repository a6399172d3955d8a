use Rattle.std.proofs.Common.{◌≡◌, ◌++◌, ◌-◌, map}
use Rattle.std.specs.List.{filter, range_with_len}
use Rattle.std.specs.Str.{bytes_eq}
use Rattle.papergrid_values.specs.declared.entity.Entity.TheVariants.{Column}
use Rattle.papergrid_config.specs.declared.setting.Setting.TheVariants.{SetAlignmentHorizontal}
use Rattle.papergrid_csv.specs.Numbers.{field_in}
use Rattle.papergrid_csv.specs.Requests.{column_alignment, first_row}
use Rattle.papergrid_csv.specs.Rows.{row_texts, held_texts}
use Rattle.papergrid_csv.proofs.aligned.push_named.Given as goal

abbrev pub invariant-loop-column : goal.invariant-loop-column
invariant-loop-column l =
    l.settings.items ++ map (λ column. SetAlignmentHorizontal (Column column) (column_alignment (map row_texts l.below) column l.alignment))
    (filter (λ column. bytes_eq (field_in column (first_row (held_texts l.rows.rows))) l.text) (range_with_len l.column (l.rows.columns - l.column)))
    ≡ l.initial.settings.items ++ map (λ column. SetAlignmentHorizontal (Column column) (column_alignment (map row_texts l.below) column l.alignment))
    (filter (λ column. bytes_eq (field_in column (first_row (held_texts l.rows.rows))) l.text) (range_with_len 0 l.rows.columns))
