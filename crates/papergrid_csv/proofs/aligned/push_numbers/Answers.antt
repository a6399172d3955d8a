use Rattle.std.proofs.Common.{◌∙◌, ap, map, sym}
use Rattle.papergrid_values.specs.declared.alignment.AlignmentHorizontal.TheVariants.{Right}
use Rattle.papergrid_values.specs.declared.entity.Entity.TheVariants.{Column}
use Rattle.papergrid_config.specs.declared.setting.Setting.TheVariants.{SetAlignmentHorizontal}
use Rattle.papergrid_csv.specs.Numbers.{is_numeric}
use Rattle.papergrid_csv.specs.Rows.{row_texts}
use Rattle.papergrid_csv.proofs.AlignedLemmas.{none-left, passed-next, picked-next}
use Rattle.papergrid_csv.proofs.aligned.push_numbers.Goals as goal
use Rattle.papergrid_csv.proofs.aligned.push_numbers.Goals.{then-is_numeric+in_ok-push_aligned, else-is_numeric}

pub loop-column-preserved : goal.loop-column-preserved
loop-column-preserved c = elim c.if-is_numeric.branch [
  | then-is_numeric+in_ok-push_aligned w ↦
      picked-next (is_numeric (map row_texts c.args.below.now)) (λ column. SetAlignmentHorizontal (Column column) Right) c.loop-column.column c.args.columns c.loop-column.settings.items _ _ c.loop-column-test.true
      (sym c.is_numeric.ensures ∙ w.if-is_numeric.true) (ap (λ s. s.items) w.settings-is ∙ w.in_ok-push_aligned.ensures) c.loop-column.invariant
  | else-is_numeric w ↦
      passed-next (is_numeric (map row_texts c.args.below.now)) (λ column. SetAlignmentHorizontal (Column column) Right) c.loop-column.column c.args.columns c.loop-column.settings.items _ _ c.loop-column-test.true
      (sym c.is_numeric.ensures ∙ w.if-is_numeric.false) (ap (λ s. s.items) w.settings-is) c.loop-column.invariant
]

pub returns : goal.returns
returns c =
    none-left (is_numeric (map row_texts c.args.below.now)) (λ column. SetAlignmentHorizontal (Column column) Right) c.loop-column.column c.args.columns c.loop-column.settings.items _ c.loop-column-test.false c.loop-column.invariant
