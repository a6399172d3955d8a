use Rattle.papergrid_draw.proofs.printer.draw_text.Goals as goal

pub returns : goal.returns
returns g c = record { drawable = c.draw_by.ensures.drawable; picture = c.draw_by.ensures.picture; fault = c.draw_by.ensures.fault; left = c.draw_by.ensures.left }
