use Rattle.std.proofs.Common.{◌∙◌, ap, sym, arith, cond, get_or, take, Some, Option}
use Rattle.std.proofs.lemmas.List.{take_more}
use Rattle.papergrid_tracks.specs.declared.demand.Demand.{Demand}
use Rattle.papergrid_tracks.specs.Ranges.{holds}
use Rattle.papergrid_tracks.specs.ForProofs.LastCells.{last_holding}
use Rattle.papergrid_tracks.proofs.LastLemmas.{last_holding_push}
use Rattle.papergrid_tracks.proofs.last_cells.write_all.Goals as goal

abbrev no_demand : Demand
no_demand = record { row = 0; col = 0; start = 0; span = 0; minimum = 0 }

pub loop-demand-preserved : goal.loop-demand-preserved
loop-demand-preserved c = λ k l.
    let d : Demand = get_or c.args.cells.now c.loop-demand.demand-index no_demand in
    c.write_over.ensures k l
    ∙ ap (λ (o : Option Demand). cond (holds (get_or c.args.cells.now c.loop-demand.demand-index no_demand) k) (Some (get_or c.args.cells.now c.loop-demand.demand-index no_demand)) o) (c.loop-demand.invariant k (omega arith))
    ∙ sym (last_holding_push (take c.loop-demand.demand-index c.args.cells.now) (get_or c.args.cells.now c.loop-demand.demand-index no_demand) k)
    ∙ ap (λ xs. last_holding xs k) (sym (take_more c.args.cells.now c.loop-demand.demand-index no_demand c.loop-demand-test.true))
