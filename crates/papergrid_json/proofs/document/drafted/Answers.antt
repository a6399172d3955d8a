use Rattle.std.proofs.Common.{ap, refl, sym, ◌∙◌}
use Rattle.papergrid_json.specs.Spots.{number_at, optional}
use Rattle.papergrid_json.specs.Documents.{accepted_at, colored_at, optional_list_at, own_sizes_at}
use Rattle.papergrid_json.proofs.RecordLemmas.{draft_told}
use Rattle.papergrid_json.proofs.document.drafted.Goals as goal

pub returns : goal.returns
returns c =
    let settings = c.in_ok-settings.ensures in
    let sizes = c.in_ok-sizes.ensures in
    let colors = c.in_ok-colors.ensures in (
      record { columns = c.in_ok-optional.field-0; settings = settings.0; sizes = sizes.0; colors = colors.0 },
      draft_told _ _ _ _ _ (sym c.if-not-is_object.ensures) (ap (optional number_at) (sym c.member.ensures) ∙ c.in_ok-optional.ensures)
          (ap (optional_list_at accepted_at) (sym c.member-2.ensures) ∙ settings.1) (ap (optional own_sizes_at) (sym c.member-3.ensures) ∙ sizes.1)
          (ap (optional_list_at colored_at) (sym c.member-4.ensures) ∙ colors.1),
      record { columns = refl; settings = settings.2; sizes = sizes.2; colors = colors.2 },
    )
