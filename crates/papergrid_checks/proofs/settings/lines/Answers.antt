use Rattle.std.proofs.Common.{[], Some}
use Rattle.papergrid_draw.proofs.CornerLemmas.{same_border}
use Rattle.papergrid_checks.proofs.settings.lines.Goals as goal

pub returns : goal.returns
returns c =
    let one = c.in_ok-insert_vertical_line.ensures.ok [] c.new-config.ensures in
    let two = c.in_ok-insert_horizontal_line.ensures.ok _ one in
    let three = c.in_ok-set_border.ensures.ok _ two in
    let four = c.in_ok-set_horizontal_char.ensures.ok _ three in
    rw (c.filled.ensures, c.filled-2.ensures, same_border (Some 35) c.filled-3.result c.filled-3.ensures, c.new.ensures, c.new-2.ensures) at four
