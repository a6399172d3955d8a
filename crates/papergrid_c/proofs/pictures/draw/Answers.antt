use Rattle.std.proofs.Common.{◌∙◌, ap, inl, length, refl}
use Rattle.papergrid_c.proofs.pictures.draw.Goals as goal

pub returns-in-Ok : goal.returns-in-Ok
returns-in-Ok c =
    let drawn = c.in-Ok.ensures.ok in
    let picture = c.picture.ensures ∙ ap (λ table. table.picture) drawn.2 in
    inl (drawn.0, drawn.1, drawn.2, ap (λ bytes. (length bytes, c.args.at.now)) picture, refl)
