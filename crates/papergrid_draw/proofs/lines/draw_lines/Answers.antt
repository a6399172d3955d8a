use Rattle.std.proofs.Common.{◌∙◌, inl, inr, refl, subst, sym}
use Rattle.std.proofs.lemmas.Result.{err_from_is_err_and}
use Rattle.std.proofs.lemmas.Bool.{false≢true}
use Rattle.papergrid_draw.specs.Drawings.{drawn_of}
use Rattle.papergrid_text.specs.Transfer.{IsTaken}
use Rattle.papergrid_draw.proofs.CountLemmas.{whole-count}
use Rattle.papergrid_draw.proofs.DeliveryLemmas.{begun-drawable}
use Rattle.papergrid_draw.proofs.SinkLemmas.{cut-off-after, taken-more}
use Rattle.papergrid_draw.proofs.LinedLemmas.{lined-begun, lined-last, lined-none, lined-some}
use Rattle.papergrid_draw.proofs.lines.draw_lines.Goals as goal

pub returns-in_err-draw_cells-clause-drawable : goal.returns-in_err-draw_cells-clause-drawable
returns-in_err-draw_cells-clause-drawable g c =
    let p = err_from_is_err_and c.from_residual.result c.from_residual.ensures.1 in
    rw (p.1, p.2) (elim c.in_err-draw_cells.ensures.drawable [
      | inl drawable ↦ inl drawable
      | inr none ↦ inr (none.0, cc (none.1), none.2, none.3)
    ])

pub returns-then-not-has_lines-clause-drawable : goal.returns-then-not-has_lines-clause-drawable
returns-then-not-has_lines-clause-drawable g c = inl (begun-drawable _ _ _ _ c.in_ok-draw_cells.ensures.drawable)

pub returns-in-Ok-clause-drawable : goal.returns-in-Ok-clause-drawable
returns-in-Ok-clause-drawable g c = inl (begun-drawable _ _ _ _ c.in_ok-draw_cells.ensures.drawable)

pub returns-in-Err-clause-drawable : goal.returns-in-Err-clause-drawable
returns-in-Err-clause-drawable g c = inl (begun-drawable _ _ _ _ c.in_ok-draw_cells.ensures.drawable)

pub returns-in_err-draw_cells-clause-left : goal.returns-in_err-draw_cells-clause-left
returns-in_err-draw_cells-clause-left g c =
    let d = drawn_of g.S.Cells.lines g.S.Cells.color c.args.table.now c.args.cells.now in
    let p = err_from_is_err_and c.from_residual.result c.from_residual.ensures.1 in
    let left = c.in_err-draw_cells.ensures.left in
    rw (p.1, p.2) (record {
      nothing = left.nothing;
      beginning = lined-begun d _ _ left.beginning.0 left.beginning.1;
      write = left.write;
      steady = left.steady;
    })

pub returns-then-not-has_lines-clause-picture : goal.returns-then-not-has_lines-clause-picture
returns-then-not-has_lines-clause-picture g c =
    let d = drawn_of g.S.Cells.lines g.S.Cells.color c.args.table.now c.args.cells.now in
    subst (λ bytes. IsTaken g.W.Sink.contents g.W.Sink.has_failed g.W.Sink.has_stalled c.args.sink.now bytes c.draw_cells.new.sink)
    (lined-none d (λ all. false≢true ((c.if-not-has_lines.ensures d refl refl).1 (all.0, all.1, (λ none. all.2 (whole-count d ∙ none))))))
    c.in_ok-draw_cells.ensures.picture

pub returns-in-Ok-clause-picture : goal.returns-in-Ok-clause-picture
returns-in-Ok-clause-picture g c =
    let d = drawn_of g.S.Cells.lines g.S.Cells.color c.args.table.now c.args.cells.now in
    let all = (c.if-not-has_lines.ensures d refl refl).0 refl in
    subst (λ bytes. IsTaken g.W.Sink.contents g.W.Sink.has_failed g.W.Sink.has_stalled c.args.sink.now bytes c.write_all.new.writer)
    (lined-some d all.0 all.1 (λ none. all.2 (sym (whole-count d) ∙ none)))
    (taken-more g.W.Sink.contents g.W.Sink.has_failed g.W.Sink.has_stalled _ _ _ _ _ c.in_ok-draw_cells.ensures.picture
    (record { bytes_are = c.in-Ok.ensures.ok; works = c.in-Ok.ensures.works; moves = c.in-Ok.ensures.moves }))

pub returns-in-Err-clause-left : goal.returns-in-Err-clause-left
returns-in-Err-clause-left g c =
    let d = drawn_of g.S.Cells.lines g.S.Cells.color c.args.table.now c.args.cells.now in
    let all = (c.if-not-has_lines.ensures d refl refl).0 refl in
    let rest = c.in-Err.ensures.beginning in
    let taken = c.in_ok-draw_cells.ensures.picture in
    cut-off-after g.W.Sink.contents g.W.Sink.has_failed g.W.Sink.has_stalled _ _ _ _ _ taken c.in-Err.ensures.failed
    (lined-last d _ _ _ rest.0 (lined-some d all.0 all.1 (λ none. all.2 (sym (whole-count d) ∙ none))) taken.bytes_are rest.1)
