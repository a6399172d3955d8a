use Rattle.std.proofs.Common.{ap, refl, ◌∙◌, subst, sym}
use Rattle.std.specs.Prelude.{Some, flat_map, map}
use Rattle.std.proofs.lemmas.List.{length-map}
use Rattle.papergrid_values.specs.declared.direction.Direction.TheVariants.{Columns, Rows}
use Rattle.papergrid_config.specs.Parts.{span_calls}
use Rattle.papergrid_layout.specs.Certificates.{solutions_of}
use Rattle.papergrid_script.specs.Estimates.{OutOfTable, Sized, TooLarge}
use Rattle.papergrid_script.specs.Seen.{row_texts_of}
use Rattle.papergrid_script.specs.Settings.{setting_told}
use Rattle.papergrid_script.specs.declared.explained.Reason.TheVariants as reason
use Rattle.papergrid_maps.specs.Spans.{IsEffectiveSpan}
use Rattle.papergrid_maps.proofs.EffectiveSpanLemmas.{effective_span-IsEffectiveSpan}
use Rattle.papergrid_config.proofs.SettingGridLemmas.{span-effective}
use Rattle.papergrid_script.proofs.SeenLemmas.{gives_seen}
use Rattle.papergrid_script.proofs.explained.table_reason.Goals as goal

pub returns-in-Ok : goal.returns-in-Ok
returns-in-Ok c =
    let gave = gives_seen (λ cell. cell.now) c.args.script c.in_ok-config.config _ _ c.args.sizing c.estimate.result c.in_ok-config.ensures.told (ap (λ r. r.iter.items) c.new-records.ensures) (ap (λ r. r.count_columns) c.new-records.ensures) c.estimate.ensures in
    let is = rw c.in-Ok.is at gave in
    (Sized (solutions_of c.in-Ok.field-0), is, refl)

pub returns-in-Err-OutOfTable : goal.returns-in-Err-OutOfTable
returns-in-Err-OutOfTable c =
    let script = c.args.script in
    let position = c.in-Err-OutOfTable.position in
    let gave = gives_seen (λ cell. cell.now) script c.in_ok-config.config _ _ c.args.sizing c.estimate.result c.in_ok-config.ensures.told (ap (λ r. r.iter.items) c.new-records.ensures) (ap (λ r. r.count_columns) c.new-records.ensures) c.estimate.ensures in
    let is = rw (c.in-Err-OutOfTable.is, c.in-Err-OutOfTable.field-0-is) at gave in
    let span = span-effective (flat_map span_calls (map setting_told script.settings.items)) c.in_ok-config.config.spans c.in_ok-config.ensures.told.spans in
    let down = c.spans_at-spans.ensures.rows ∙ span Rows position in
    let across = c.spans_at-spans.ensures.columns ∙ span Columns position in
    let rows = c.len-count.ensures ∙ script.rows.ok.0 ∙ sym (length-map script.rows.items (λ row. row_texts_of row.now)) in
    let calls = flat_map span_calls (map setting_told script.settings.items) in
    let down-is = subst (IsEffectiveSpan Rows position calls) (sym down) (effective_span-IsEffectiveSpan Rows position calls) in
    let across-is = subst (IsEffectiveSpan Columns position calls) (sym across) (effective_span-IsEffectiveSpan Columns position calls) in
    (OutOfTable position, is, (_, _, down-is, across-is, λ i. Some (reason.OutOfTable position c.spans_at-spans.result (rows i, script.columns))))

pub returns-in-Err-TooLarge : goal.returns-in-Err-TooLarge
returns-in-Err-TooLarge c =
    let gave = gives_seen (λ cell. cell.now) c.args.script c.in_ok-config.config _ _ c.args.sizing c.estimate.result c.in_ok-config.ensures.told (ap (λ r. r.iter.items) c.new-records.ensures) (ap (λ r. r.count_columns) c.new-records.ensures) c.estimate.ensures in
    let is = rw (c.in-Err-TooLarge.is, c.in-Err-TooLarge.field-0-is) at gave in
    (TooLarge, is, refl)
