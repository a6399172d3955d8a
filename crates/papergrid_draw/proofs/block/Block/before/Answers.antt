use Rattle.std.proofs.Common.{◌-◌, ◌∙◌, ap}
use Rattle.papergrid_draw.specs.Contents as contents
use Rattle.papergrid_draw.specs.Contents.{aligned_width, free_before, inner}
use Rattle.papergrid_draw.proofs.block.Block.before.Goals as goal

pub returns : goal.returns
returns g c = λ text.
    c.free_before.ensures
    ∙ ap (free_before c.self.inside.look.horizontal) (c.saturating_sub.ensures ∙ (λ i. c.requires i - c.aligned_width-aligned.ensures text i))
    ∙ ap (λ (b : contents.Block). free_before b.look.horizontal (inner c.args.self.now - aligned_width c.args.self.now (text, c.args.width))) c.self.view_is
