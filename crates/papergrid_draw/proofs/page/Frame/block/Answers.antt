use Rattle.std.proofs.Common.{◌∙◌, ap, sym}
use Rattle.std.specs.Prelude.{Some}
use Rattle.papergrid_config.specs.declared.spanned.SpannedConfig.{SpannedConfig}
use Rattle.papergrid_draw.specs.Contents.{Block, look_of}
use Rattle.papergrid_draw.specs.ForProofs.Pages.{drawing_of}
use Rattle.papergrid_draw.proofs.PageLemmas.{block-made}
use Rattle.papergrid_draw.proofs.page.Frame.block.Goals as goal

pub returns : goal.returns
returns g c = λ texts inside lines color.
    let p = c.args.position in
    let found = rw c.in_ok-place.was at c.rectangle.ensures in
    let made = c.new.ensures in
    ap (λ (b : Block). Some b) (block-made (drawing_of c.args.self.now.table.now texts) p c.new.result c.in_ok-place.place
    found.1
    (ap (λ (b : Block). b.look) made ∙ c.get-look.ensures ∙ ap (λ (s : SpannedConfig). look_of s p) c.args.self.now.read.config_is)
    (ap (λ (b : Block). b.lines) made ∙ sym lines)
    (ap (λ (b : Block). b.color) made ∙ sym color)
    (ap (λ (b : Block). b.width) made)
    (ap (λ (b : Block). b.height) made))
