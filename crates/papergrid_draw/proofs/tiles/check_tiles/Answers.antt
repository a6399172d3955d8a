use Rattle.std.proofs.Common.{◌≡◌, ◌∙◌, ap, arith, refl, subst, sym}
use Rattle.std.proofs.lemmas.Bool.{eqb-true}
use Rattle.std.proofs.lemmas.List.{nil_from_length}
use Rattle.std.specs.Vec.{vec_len}
use Rattle.std.proofs.lemmas.Result.{IfErr-weaker, err_from_is_err_and, on_ok_weaker}
use Rattle.papergrid_maps.specs.Hidden.{AreAnchorsOf}
use Rattle.papergrid_config.specs.Grids.{spanned_grid}
use Rattle.papergrid_walk.proofs.ShownLemmas.{shows_first}
use Rattle.papergrid_layout.specs.Places.{TableView}
use Rattle.papergrid_draw.specs.ForProofs.Tiles.{AreOwnedBefore, HasTiled}
use Rattle.papergrid_draw.proofs.TileLemmas.{bare-tiled}
use Rattle.papergrid_draw.proofs.TilingLemmas.{owned-first}
use Rattle.papergrid_draw.proofs.tiles.check_tiles.Goals as goal

pub returns-then-is_empty-clause-ok : goal.returns-then-is_empty-clause-ok
returns-then-is_empty-clause-ok c = λ table same shape.
    let anchors = c.in_ok-anchors.anchors.items in
    let none : vec_len c.in_ok-anchors.anchors ≡ 0 = eqb-true (vec_len c.in_ok-anchors.anchors) 0 (sym c.is_empty.ensures ∙ c.if-is_empty.true) in
    bare-tiled table anchors (nil_from_length anchors (omega (arith, none, c.in_ok-anchors.anchors.ok.0))) (subst (λ grid. AreAnchorsOf grid anchors) (sym same) c.in_ok-anchors.ensures.shows)

pub check_ends-requires-clause-anchors : goal.check_ends-requires-clause-anchors
check_ends-requires-clause-anchors c =
    let table : TableView = record { grid = spanned_grid c.args.config.now; widths = λ _. 0; heights = λ _. 0; shape = c.args.shape } in
    (table, rw c.deref.ensures.value c.in_ok-anchors.ensures.shows, refl)

pub visit_rows-requires : goal.visit_rows-requires
visit_rows-requires c =
    let table : TableView = record { grid = spanned_grid c.args.config.now; widths = λ _. 0; heights = λ _. 0; shape = c.args.shape } in (
      table,
      refl,
      record {
        fits = (omega arith, omega arith);
        within = c.in_ok-check_ends.ensures.ok table (rw c.deref.ensures.value c.in_ok-anchors.ensures.shows) refl;
        shows = rw c.in_ok-sweep.ensures (shows_first table.grid c.in_ok-anchors.anchors.items c.args.shape.1 c.in_ok-anchors.ensures.shows);
        owned = subst (AreOwnedBefore table 0 0) (sym (c.in_ok-until.ensures.items_if_clones_equal (λ y e. e))) (owned-first table c.args.shape.1 refl);
      },
    )

-- at the start of the walk
begun : (c : goal.After-drop-tiling) (table : TableView) → table.grid ≡ spanned_grid c.args.config.now → table.shape ≡ c.args.shape →
    HasTiled table 0 0 record { sweep = c.in_ok-sweep.sweep; until = c.in_ok-until.until }
begun c table same shape =
    let are = subst (λ grid. AreAnchorsOf grid c.in_ok-anchors.anchors.items) (sym same) c.in_ok-anchors.ensures.shows in
    let wide : table.shape.1 ≡ c.args.shape.1 = ap (λ s. s.1) shape in
    let high : table.shape.0 ≡ c.args.shape.0 = ap (λ s. s.0) shape in
    record {
      fits = (omega (arith, high), omega (arith, wide));
      within = c.in_ok-check_ends.ensures.ok table (rw c.deref.ensures.value are) shape;
      shows = rw c.in_ok-sweep.ensures (shows_first table.grid c.in_ok-anchors.anchors.items c.args.shape.1 are);
      owned = subst (AreOwnedBefore table 0 0) (sym (c.in_ok-until.ensures.items_if_clones_equal (λ y e. e))) (owned-first table c.args.shape.1 (sym wide));
    }

pub returns-clause-ok : goal.returns-clause-ok
returns-clause-ok c = on_ok_weaker c.visit_rows.result (λ tiled table same shape. tiled table shape (begun c table same shape)) c.visit_rows.ensures.ok

pub returns-clause-err : goal.returns-clause-err
returns-clause-err c = IfErr-weaker c.visit_rows.result _ _ (λ e fault table same shape. fault table shape (begun c table same shape)) c.visit_rows.ensures.err

pub returns-in_err-check_ends-clause-err : goal.returns-in_err-check_ends-clause-err
returns-in_err-check_ends-clause-err c =
    let p = err_from_is_err_and c.from_residual-in_err-check_ends.result c.from_residual-in_err-check_ends.ensures.1 in
    rw (p.1, p.2) (λ table same shape. c.in_err-check_ends.ensures.err table
    (rw c.deref.ensures.value (subst (λ grid. AreAnchorsOf grid c.in_ok-anchors.anchors.items) (sym same) c.in_ok-anchors.ensures.shows)) shape)
