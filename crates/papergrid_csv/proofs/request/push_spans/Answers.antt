use Rattle.std.proofs.Common.{◌∙◌, ◌++◌, ◌∷◌, [], ap, append_assoc, get_or}
use Rattle.std.proofs.lemmas.List.{get_or_default}
use Rattle.papergrid_config.specs.declared.setting.Setting.TheVariants.{SetColumnSpan, SetRowSpan}
use Rattle.papergrid_csv.specs.Requests.{span_settings}
use Rattle.papergrid_csv.specs.declared.request.Span.{Span}
use Rattle.papergrid_csv.proofs.AlignedLemmas.{entry-next}
use Rattle.papergrid_csv.proofs.request.push_spans.Goals as goal

pub loop-span-preserved : goal.loop-span-preserved
loop-span-preserved c =
    let spans = c.args.spans.now in
    let none : Span = record { position = record { row = 0; col = 0 }; rows = 0; columns = 0 } in
    let span = get_or spans c.loop-span.span-index none in
    entry-next span_settings spans c.loop-span.span-index span c.loop-span.settings.items _ _ c.loop-span-test.true (get_or_default spans c.loop-span.span-index span none c.loop-span-test.true)
    (c.in_ok-push_setting-2.ensures ∙ ap (λ l. l ++ SetRowSpan span.position span.rows ∷ []) c.in_ok-push_setting.ensures
    ∙ append_assoc c.loop-span.settings.items (SetColumnSpan span.position span.columns ∷ []) (SetRowSpan span.position span.rows ∷ [])) c.loop-span.invariant
