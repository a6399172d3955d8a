use Rattle.std.proofs.Common.{◌≡◌, ◌+◌, ◌∙◌, ap, sym}
use Rattle.papergrid_values.specs.declared.direction.Direction.TheVariants.{Rows}
use Rattle.papergrid_config.specs.declared.spanned.SpannedConfig.{SpannedConfig}
use Rattle.papergrid_layout.specs.Places.{TableView, total_along}
use Rattle.papergrid_draw.specs.Faults.{whole_height}
use Rattle.papergrid_draw.proofs.lines.has_lines.Goals as goal

pub returns : goal.returns
returns c = λ d layout config.
    let shape = c.shape-rows.ensures ∙ sym (ap (λ (t : TableView). t.shape) layout) in
    let lines = c.height.ensures ∙ sym (ap (λ (t : TableView). total_along t Rows) layout) in
    let margin = c.get_margin-margin.ensures ∙ ap (λ (k : SpannedConfig). k.margin) (c.config.ensures ∙ sym config) in
    let high : c.height.result + (c.get_margin-margin.result.top.size + c.get_margin-margin.result.bottom.size) ≡ whole_height d =
    λ i. lines i + ((margin i).top.size + (margin i).bottom.size) in (
      (λ is. let all = c.is_any.ensures.0 is in (
        (λ none. all.0 (ap (λ s. s.0) shape ∙ none)),
        (λ none. all.1 (ap (λ s. s.1) shape ∙ none)),
        (λ none. all.2 (high ∙ none)),
      )),
      (λ all. c.is_any.ensures.1 (
        (λ none. all.0 (sym (ap (λ s. s.0) shape) ∙ none)),
        (λ none. all.1 (sym (ap (λ s. s.1) shape) ∙ none)),
        (λ none. all.2 (sym high ∙ none)),
      )),
    )
