use Rattle.std.proofs.Common.{◌∙◌, ap, map, string_bytes, sym, take}
use Rattle.std.proofs.lemmas.List.{take-map}
use Rattle.papergrid_builder.specs.ForProofs.Texts.{text_in}
use Rattle.papergrid_builder.proofs.cells.CellTexts.truncate.Goals as goal

pub returns : goal.returns
returns c =
    let text = string_bytes c.self.inside.text in
    ap (map (text_in text)) c.truncate.ensures.items ∙ sym (take-map (text_in text) c.args.count c.self.inside.ranges.items) ∙ ap (take c.args.count) c.self.view_is
