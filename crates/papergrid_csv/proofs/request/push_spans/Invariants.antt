use Rattle.std.proofs.Common.{◌≡◌, ◌++◌, drop, flat_map}
use Rattle.papergrid_csv.specs.Requests.{span_settings}
use Rattle.papergrid_csv.proofs.request.push_spans.Given as goal

abbrev pub invariant-loop-span : goal.invariant-loop-span
invariant-loop-span l =
    l.settings.items ++ flat_map span_settings (drop l.span-index l.spans) ≡ l.initial.settings.items ++ flat_map span_settings l.spans
