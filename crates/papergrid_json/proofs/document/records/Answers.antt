use Rattle.std.proofs.Common.{ap, sym, ◌∙◌}
use Rattle.std.specs.Prelude.{codes, option_and_then, option_map}
use Rattle.serde_json.specs.Find.{as_array, get}
use Rattle.serde_json.specs.View.{view}
use Rattle.papergrid_json.proofs.RecordLemmas.{member_view}
use Rattle.papergrid_json.proofs.document.records.Goals as goal

pub returns-in-Object : goal.returns-in-Object
returns-in-Object c =
    c.listed.ensures ∙ ap (λ value. option_and_then as_array (option_map view value)) c.remove.ensures.value
    ∙ ap (option_and_then as_array) (member_view (codes "records") c.in-Object.members)
    ∙ ap (λ value. option_and_then as_array (get (codes "records") (view value))) (sym c.in-Object.is)
