use Rattle.std.proofs.Common.{◌≡◌, ◌+◌, ◌∙◌, ap, sym, ◌∷◌, ◌++◌, [], length, get_or, take, drop, subst, arith, take-append-drop, refl}
use Rattle.std.proofs.lemmas.List.{take_more, drop_more}
use Rattle.std.proofs.lemmas.Bool.{false≢true}
use Rattle.std.proofs.lemmas.List.Elements.{recursion_from_All, All-take}
use Rattle.papergrid_tracks.specs.declared.demand.Demand.{Demand}
use Rattle.papergrid_tracks.specs.Ranges.{IsInTable}
use Rattle.papergrid_tracks.specs.ForProofs.LastCells.{IsLaminarInOrder}
use Rattle.papergrid_tracks.proofs.LastLoops.{IsTableOf, table-cells, IsTableOf-more, under-from_laminar}
use Rattle.papergrid_tracks.proofs.last_cells.are_laminar.Goals as goal

abbrev no_demand : Demand
no_demand = record { row = 0; col = 0; start = 0; span = 0; minimum = 0 }

pub covers_all-requires-clause-others : goal.covers_all-requires-clause-others
covers_all-requires-clause-others c =
    table-cells (length c.args.last.now) (take c.loop-demand.demand-index c.args.cells.now) c.loop-demand.last
    (recursion_from_All (IsInTable (length c.args.last.now)) (take c.loop-demand.demand-index c.args.cells.now) (All-take (IsInTable (length c.args.last.now)) c.loop-demand.demand-index c.args.cells.now c.requires.table))
    c.loop-demand.invariant

pub returns-then-not-covers_all : goal.returns-then-not-covers_all
returns-then-not-covers_all c =
    let split : c.args.cells.now ≡ take c.loop-demand.demand-index c.args.cells.now ++ get_or c.args.cells.now c.loop-demand.demand-index no_demand ∷ drop (c.loop-demand.demand-index + 1) c.args.cells.now =
    sym (take-append-drop c.loop-demand.demand-index c.args.cells.now)
    ∙ ap (λ xs. take c.loop-demand.demand-index c.args.cells.now ++ xs) (drop_more c.args.cells.now c.loop-demand.demand-index no_demand c.loop-demand-test.true) in (
      (λ t. absurd (false≢true t)),
      λ laminar. c.if-not-covers_all.ensures.1
          (under-from_laminar (length c.args.last.now) (take c.loop-demand.demand-index c.args.cells.now) c.loop-demand.last
          (recursion_from_All (IsInTable (length c.args.last.now)) (take c.loop-demand.demand-index c.args.cells.now) (All-take (IsInTable (length c.args.last.now)) c.loop-demand.demand-index c.args.cells.now c.requires.table))
          c.loop-demand.invariant (get_or c.args.cells.now c.loop-demand.demand-index no_demand) (drop (c.loop-demand.demand-index + 1) c.args.cells.now)
          (c.requires.table c.loop-demand.demand-index no_demand c.loop-demand-test.true)
          (subst (IsLaminarInOrder) split laminar)),
    )

pub loop-demand-preserved : goal.loop-demand-preserved
loop-demand-preserved c =
    let more : IsTableOf (length c.args.last.now) (take c.loop-demand.demand-index c.args.cells.now ++ get_or c.args.cells.now c.loop-demand.demand-index no_demand ∷ []) c.write_over.new.last =
    IsTableOf-more (length c.args.last.now) (take c.loop-demand.demand-index c.args.cells.now) c.loop-demand.last
    (recursion_from_All (IsInTable (length c.args.last.now)) (take c.loop-demand.demand-index c.args.cells.now) (All-take (IsInTable (length c.args.last.now)) c.loop-demand.demand-index c.args.cells.now c.requires.table))
    c.loop-demand.invariant (get_or c.args.cells.now c.loop-demand.demand-index no_demand) c.write_over.new.last
    (c.requires.table c.loop-demand.demand-index no_demand c.loop-demand-test.true)
    (c.if-not-covers_all.ensures.0 refl) (omega arith) c.write_over.ensures in
    rw (take_more c.args.cells.now c.loop-demand.demand-index no_demand c.loop-demand-test.true) more
