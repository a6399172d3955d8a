use Rattle.std.proofs.Common.{[], ◌∙◌, ap, subst, refl}
use Rattle.papergrid_maps.specs.StoredMap as map
use Rattle.papergrid_values.specs.Compact.{all_sides}
use Rattle.papergrid_config.proofs.spanned.SpannedConfig.new.Goals as goal

pub returns : goal.returns
returns c = record {
  padding = subst (λ given. map.HasMapHistory given [] c.new.result) (c.filled.ensures ∙ ap all_sides c.zero.ensures) c.new.ensures;
  padding_color = subst (λ given. map.HasMapHistory given [] c.new-3.result) c.new-2.ensures c.new-3.ensures;
  trim_horizontal = c.new-4.ensures;
  trim_vertical = c.new-5.ensures;
  line_alignment = c.new-6.ensures;
  alignment_horizontal = c.new-7.ensures;
  alignment_vertical = c.new-8.ensures;
  justification = c.new-9.ensures;
  justification_color = c.new-10.ensures;
  characters = c.new-11.ensures.told;
  colors = c.new-12.ensures.told;
  horizontal_chars = c.new-13.ensures;
  vertical_chars = c.new-14.ensures;
  horizontal_colors = c.new-15.ensures;
  vertical_colors = c.new-16.ensures;
  spans = c.new-17.ensures;
  margin = c.filled-2.ensures ∙ ap all_sides c.zero-2.ensures;
  margin_color = c.new-18.ensures;
  margin_offset = c.filled-3.ensures;
  missing = refl;
}
