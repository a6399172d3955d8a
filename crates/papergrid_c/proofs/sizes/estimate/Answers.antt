use Rattle.std.proofs.Common.{inl, refl}
use Rattle.papergrid_c.proofs.sizes.estimate.Goals as goal

pub returns-in-Ok : goal.returns-in-Ok
returns-in-Ok c =
    let found = c.in-Ok.ensures.ok in
    inl (found.0, found.1, found.3, found.2, refl)
