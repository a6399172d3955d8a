use Rattle.std.proofs.Common.{◌∙◌, ◌++◌, ◌∷◌, [], ap, map, sym}
use Rattle.std.specs.Str.{bytes_eq}
use Rattle.papergrid_values.specs.declared.entity.Entity.TheVariants.{Column}
use Rattle.papergrid_config.specs.declared.setting.Setting.TheVariants.{SetAlignmentHorizontal}
use Rattle.papergrid_csv.specs.Numbers.{field_in}
use Rattle.papergrid_csv.specs.Requests.{column_alignment, first_row}
use Rattle.papergrid_csv.specs.Rows.{row_texts, held_texts}
use Rattle.papergrid_csv.proofs.AlignedLemmas.{none-left, passed-next, picked-next}
use Rattle.papergrid_csv.proofs.aligned.push_named.Goals as goal
use Rattle.papergrid_csv.proofs.aligned.push_named.Goals.{then-eq+in_ok-push_aligned, else-eq}

pub loop-column-preserved : goal.loop-column-preserved
loop-column-preserved c =
    let same = ap (λ field. bytes_eq field c.args.text.now) (c.head_field.ensures ∙ ap (λ rows. field_in c.loop-column.column (first_row (map row_texts rows))) c.deref.ensures.value) in
    elim c.if-eq.branch [
      | then-eq+in_ok-push_aligned w ↦
          picked-next (λ column. bytes_eq (field_in column (first_row (held_texts c.args.rows.now.rows))) c.args.text.now)
          (λ column. SetAlignmentHorizontal (Column column) (column_alignment (map row_texts c.args.below.now) column c.args.alignment)) c.loop-column.column c.args.rows.now.columns c.loop-column.settings.items _ _
          c.loop-column-test.true (sym same ∙ sym c.eq.ensures ∙ w.if-eq.true)
          (ap (λ s. s.items) w.settings-is ∙ w.in_ok-push_aligned.ensures ∙ ap (λ a. c.loop-column.settings.items ++ SetAlignmentHorizontal (Column c.loop-column.column) a ∷ []) w.column_alignment.ensures) c.loop-column.invariant
      | else-eq w ↦
          passed-next (λ column. bytes_eq (field_in column (first_row (held_texts c.args.rows.now.rows))) c.args.text.now)
          (λ column. SetAlignmentHorizontal (Column column) (column_alignment (map row_texts c.args.below.now) column c.args.alignment)) c.loop-column.column c.args.rows.now.columns c.loop-column.settings.items _ _
          c.loop-column-test.true (sym same ∙ sym c.eq.ensures ∙ w.if-eq.false) (ap (λ s. s.items) w.settings-is) c.loop-column.invariant
    ]

pub returns : goal.returns
returns c =
    none-left (λ column. bytes_eq (field_in column (first_row (held_texts c.args.rows.now.rows))) c.args.text.now)
    (λ column. SetAlignmentHorizontal (Column column) (column_alignment (map row_texts c.args.below.now) column c.args.alignment)) c.loop-column.column c.args.rows.now.columns c.loop-column.settings.items _
    c.loop-column-test.false c.loop-column.invariant
