use Rattle.std.proofs.Common.{◌≡◌, ◌∙◌, ◌++◌, ap, string_bytes}
use Rattle.std.proofs.Output.{contents_after_writes}
use Rattle.std.proofs.lemmas.Result.{on_ok_weaker}
use Rattle.papergrid_draw.specs.Drawings.{drawn_of}
use Rattle.papergrid_draw.specs.Faults.{IsDrawable}
use Rattle.papergrid_draw.specs.Margins.{printed}
use Rattle.papergrid_draw.proofs.DeliveryLemmas.{begun-drawable, string-whole}
use Rattle.papergrid_draw.proofs.printer.drawn_string.Goals as goal

pub returns-clause-drawable : goal.returns-clause-drawable
returns-clause-drawable g c =
    let d = drawn_of g.S.Cells.lines g.S.Cells.color c.args.table.now c.args.cells.now in
    string-whole _ (λ string. IsDrawable d) c.draw_text-drawn.result c.string_of.result c.string_of.ensures
    (begun-drawable d _ _ c.draw_text-drawn.result c.draw_text-drawn.ensures.drawable)

pub returns-clause-picture : goal.returns-clause-picture
returns-clause-picture g c =
    let picture = printed (drawn_of g.S.Cells.lines g.S.Cells.color c.args.table.now c.args.cells.now) in
    string-whole _ (λ string. string_bytes string ≡ picture) c.draw_text-drawn.result c.string_of.result c.string_of.ensures
    (on_ok_weaker c.draw_text-drawn.result
    (λ calls. contents_after_writes _ string_bytes (λ before text after is. is) _ picture _ calls ∙ ap (λ l. l ++ picture) c.new-text.ensures.bytes) c.draw_text-drawn.ensures.picture)
