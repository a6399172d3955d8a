use Rattle.std.proofs.Common.{◌≡◌, false, subst, ap, ◌∙◌}
use Rattle.papergrid_values.specs.Keys.{sides_parts}
use Rattle.papergrid_values.specs.Parts.{none_set}
use Rattle.papergrid_config.proofs.Closures.{history_of_both, from_not, not_both}
use Rattle.papergrid_config.proofs.spanned.SpannedConfig.has_padding_color.Goals as goal

pub returns : goal.returns
returns c = history_of_both c.any_held.result c.any_held.ensures.yes c.any_held.ensures.no
    (λ found. (found.0, found.1, subst (λ s. none_set (sides_parts s) ≡ false) found.2.shows (from_not _ found.2.says.met)))
    (λ set none. let r = none set.0 set.1 in not_both _ r.says.met (ap (λ s. none_set (sides_parts s)) r.shows ∙ set.2))
