use Rattle.std.proofs.Common.{◌∙◌, sym}
use Rattle.papergrid_walk.specs.ForProofs.Shown.{anchor_in}
use Rattle.papergrid_layout.proofs.PlacingLemmas.{anchor-own, found-shown, has-found, placed-more}
use Rattle.papergrid_layout.proofs.cell_rects.Placing.visit.Goals as goal

pub returns-in-Ok-clause-ok : goal.returns-in-Ok-clause-ok
returns-in-Ok-clause-ok c = λ table has.
    let p = c.args.position in
    let found = found-shown (table.grid.shows p) (anchor_in table.grid p) c.in-Some.anchor (sym c.in-Some.is ∙ c.in_ok-anchor.ensures.visible table.grid has.shows) in
    let place = has-found table p c.in-Some.anchor c.in-Some-place_of.place has.fit found.0 found.1
    (c.in-Some-place_of.ensures table has.marked (anchor-own table.grid p c.in-Some.anchor found.1)) in
    record {
      fit = has.fit;
      marked = has.marked;
      shows = c.in_ok-anchor.ensures.later table.grid has.shows;
      list = rw c.in-Ok.ensures.items (placed-more table p.row p.col c.args.self.now.places.items c.in-Some-place_of.place place has.list);
    }
