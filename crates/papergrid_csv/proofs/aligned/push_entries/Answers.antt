use Rattle.std.proofs.Common.{◌∙◌, ◌++◌, ap, map, sym}
use Rattle.papergrid_values.specs.declared.entity.Entity.TheVariants.{Column}
use Rattle.papergrid_config.specs.declared.setting.Setting.TheVariants.{SetAlignmentHorizontal}
use Rattle.papergrid_csv.specs.Requests.{column_alignment, columns_named, entry_settings, first_row}
use Rattle.papergrid_csv.specs.Rows.{held_texts}
use Rattle.papergrid_csv.proofs.AlignedLemmas.{entry-next}
use Rattle.papergrid_csv.proofs.aligned.push_entries.Goals as goal

pub loop-name-preserved : goal.loop-name-preserved
loop-name-preserved c =
    let rows = c.args.rows.now in
    let entry = c.loop-name-item.result in
    entry-next (entry_settings c.args.request.now rows.columns (held_texts rows.rows)) c.deref-name-items.result.now c.loop-name.name-index entry c.loop-name.settings.items _ _ c.loop-name-test.true (sym c.loop-name-item.is)
    (c.in_ok-push_entry.ensures ∙ ap (λ below. c.loop-name.settings.items ++ map (λ column. SetAlignmentHorizontal (Column column) (column_alignment below column entry.1)) (columns_named (first_row (held_texts rows.rows)) rows.columns entry.0)) c.requires)
    c.loop-name.invariant
