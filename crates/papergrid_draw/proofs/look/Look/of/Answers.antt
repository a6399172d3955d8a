use Rattle.papergrid_draw.proofs.look.Look.of.Goals as goal

pub returns : goal.returns
returns c = λ i. record {
  padding = c.get_padding.ensures.stored i;
  padding_color = c.get_padding_color.ensures.stored i;
  formatting = c.get_formatting.ensures.stored i;
  horizontal = c.get_alignment_horizontal.ensures.stored i;
  vertical = c.get_alignment_vertical.ensures.stored i;
  justification = c.get_justification.ensures.stored i;
  justification_color = c.get_justification_color.ensures.stored i;
}
