use Rattle.std.proofs.Common.{◌∙◌}
use Rattle.std.proofs.lemmas.Bool.{iff_false}
use Rattle.papergrid_draw.proofs.LookLemmas.{nothing_of, same_value}
use Rattle.papergrid_draw.proofs.look.common_alignment.Goals as goal

pub returns : goal.returns
returns c = λ p.
    let held = c.args.config.now.alignment_horizontal in
    c.get_alignment_horizontal.ensures.stored
    ∙ same_value held (nothing_of held (iff_false c.has_alignment_horizontal.ensures c.if-has_alignment_horizontal.false)) _ p
