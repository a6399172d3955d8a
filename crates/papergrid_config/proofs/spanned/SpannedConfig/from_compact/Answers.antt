use Rattle.std.proofs.Common.{[], ◌∷◌, subst}
use Rattle.papergrid_values.specs.declared.entity.Entity.TheVariants.{Global}
use Rattle.papergrid_config.specs.Made.{AreColoredSides, IsColoredFrame}
use Rattle.papergrid_config.specs.History.{HasSettingHistory}
use Rattle.papergrid_config.specs.declared.setting.Setting.TheVariants.{SetPadding, SetPaddingColor, SetAlignmentHorizontal, SetMargin, SetMarginColor, SetBorders, SetBordersColor}
use Rattle.papergrid_config.proofs.spanned.SpannedConfig.from_compact.Goals as goal

pub returns : goal.returns
returns c =
    let told =
    c.set_borders_color.ensures.told _ (c.set_borders.ensures.told _ (c.set_margin_color.ensures.told _ (c.set_margin.ensures.told _
    (c.in_ok-set_alignment_horizontal.ensures.ok _ (c.in_ok-set_padding_color.ensures.ok _ (c.in_ok-set_padding.ensures.ok _ c.new-config.ensures)))))) in
    record {
      padding_color = c.in_ok-padding_color.padding_color;
      margin_color = c.in_ok-owned_sides.field-0;
      border_colors = c.in_ok-owned_frame.field-0;
      of_padding = subst (λ colors. AreColoredSides colors c.in_ok-padding_color.padding_color) c.get_padding_color.ensures c.in_ok-padding_color.ensures;
      of_margin = subst (λ colors. AreColoredSides colors c.in_ok-owned_sides.field-0) c.get_margin_color.ensures c.in_ok-owned_sides.ensures;
      of_borders = subst (λ colors. IsColoredFrame colors c.in_ok-owned_frame.field-0) c.get_borders_color.ensures c.in_ok-owned_frame.ensures;
      told = subst (λ settings. HasSettingHistory settings c.set_borders_color.new.self) (λ i.
          SetPadding Global (c.get_padding.ensures i)
          ∷ SetPaddingColor Global c.in_ok-padding_color.padding_color
          ∷ SetAlignmentHorizontal Global (c.get_alignment_horizontal.ensures i)
          ∷ SetMargin (c.get_margin.ensures i)
          ∷ SetMarginColor c.in_ok-owned_sides.field-0
          ∷ SetBorders (c.get_borders.ensures i)
          ∷ SetBordersColor c.in_ok-owned_frame.field-0
          ∷ []) told;
    }
