use Rattle.papergrid_draw.proofs.LookLemmas.{Answers, common_from, nothing_found}
use Rattle.papergrid_draw.proofs.look.has_own_look.Goals as goal

pub returns-else-vertical : goal.returns-else-vertical
returns-else-vertical c =
    let told : Answers c.args.config.now c.has_padding-padding.result c.has_padding_color-padding_color.result c.has_formatting-formatting.result c.has_alignment_vertical-vertical.result c.has_justification-justification.result = record {
      of_padding = c.has_padding-padding.ensures;
      of_padding_color = c.has_padding_color-padding_color.ensures;
      of_formatting = c.has_formatting-formatting.ensures;
      of_vertical = c.has_alignment_vertical-vertical.ensures;
      of_justification = c.has_justification-justification.ensures;
    } in
    let others = c.if-vertical.false in
    (λ last. common_from _ _ _ _ _ _ told others.0 others.1 others.2 others.3 last, λ common. (nothing_found _ _ _ _ _ _ told common).4)
