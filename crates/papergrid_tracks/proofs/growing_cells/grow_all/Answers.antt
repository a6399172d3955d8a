use Rattle.std.proofs.Common.{◌≡◌, ◌∙◌, ◌++◌, get_or, ap, sym, ltb, Vec, Global, arith}
use Rattle.std.proofs.lemmas.Bool.{ltb_from_iff}
use Rattle.std.proofs.lemmas.List.{append-nil, at_drop_all, take_all}
use Rattle.std.proofs.lemmas.List.Sums.{fold_more}
use Rattle.papergrid_tracks.specs.declared.demand.Demand.{Demand}
use Rattle.papergrid_tracks.specs.ForProofs.Settled.{line_at}
use Rattle.papergrid_tracks.specs.Sizes.{deficit, grown_sizes}
use Rattle.papergrid_tracks.specs.Certificates.{growing_demands}
use Rattle.papergrid_tracks.proofs.LaidLemmas.{no_cell}
use Rattle.papergrid_tracks.proofs.GrowingLoop.{growing_passed, growing_pushed}
use Rattle.papergrid_tracks.proofs.growing_cells.grow_all.Goals.{then-grow+in_ok-push, else-grow}
use Rattle.papergrid_tracks.proofs.growing_cells.grow_all.Goals as goal

pub grow-requires-clause-table : goal.grow-requires-clause-table
grow-requires-clause-table c = rw c.loop-demand.auto.sizes (c.requires.cells c.loop-demand.demand-index no_cell c.loop-demand-test.true)

pub loop-demand-preserved : goal.loop-demand-preserved
loop-demand-preserved c =
    let grew : c.grow.result ≡ ltb 0 (deficit (line_at c.args.lines.now) c.loop-demand.sizes (get_or c.args.cells.now c.loop-demand.demand-index no_cell)) = ltb_from_iff c.grow.ensures.grew in (
      c.grow.ensures.grown
          ∙ ap (λ sizes. grown_sizes (line_at c.args.lines.now) sizes (get_or c.args.cells.now c.loop-demand.demand-index no_cell)) c.loop-demand.invariant.0
          ∙ sym (fold_more (grown_sizes (line_at c.args.lines.now)) c.args.sizes.now c.args.cells.now c.loop-demand.demand-index no_cell c.loop-demand-test.true),
      elim c.if-grow.branch [
        | then-grow+in_ok-push w ↦
            growing_pushed (line_at c.args.lines.now) c.loop-demand.sizes c.grow.new.sizes c.args.cells.now c.loop-demand.growing_cells.items
            (growing_demands (line_at c.args.lines.now) c.args.sizes.now c.args.cells.now) c.loop-demand.demand-index no_cell c.loop-demand-test.true
            c.grow.ensures.grown c.loop-demand.invariant.1 c.if-grow.growing_cells.items (sym grew ∙ w.if-grow.true)
            (ap (λ (v : Vec Demand Global). v.items) w.growing_cells-is ∙ w.in_ok-push.ensures.items)
        | else-grow w ↦
            growing_passed (line_at c.args.lines.now) c.loop-demand.sizes c.grow.new.sizes c.args.cells.now c.loop-demand.growing_cells.items
            (growing_demands (line_at c.args.lines.now) c.args.sizes.now c.args.cells.now) c.loop-demand.demand-index no_cell c.loop-demand-test.true
            c.grow.ensures.grown c.loop-demand.invariant.1 c.if-grow.growing_cells.items (sym grew ∙ w.if-grow.false)
            (ap (λ (v : Vec Demand Global). v.items) w.growing_cells-is)
      ],
    )

pub returns-clause-growing_cells : goal.returns-clause-growing_cells
returns-clause-growing_cells c =
    sym (append-nil c.loop-demand.growing_cells.items)
    ∙ ap (λ rest. c.loop-demand.growing_cells.items ++ rest)
    (sym (at_drop_all (growing_demands (line_at c.args.lines.now) c.loop-demand.sizes) c.args.cells.now c.loop-demand.demand-index c.loop-demand-test.false))
    ∙ c.loop-demand.invariant.1

pub returns-clause-sizes : goal.returns-clause-sizes
returns-clause-sizes c = grind (arith, take_all)
