use Rattle.std.proofs.Common.{◌≡◌, ◌⊎◌, ◌==◌, Ok, false, ap, eq-eqb, inl, inr, subst, sym, arith}
use Rattle.std.proofs.Output.{writes_in_calls_nil}
use Rattle.std.proofs.lemmas.Bool.Decides.{nat_tests}
use Rattle.papergrid_draw.specs.Drawings.{drawn_of}
use Rattle.papergrid_draw.specs.Deliveries.{Draws}
use Rattle.papergrid_draw.specs.ForProofs.Sheets.{Writes}
use Rattle.papergrid_draw.proofs.DeliveryLemmas.{draws-written}
use Rattle.papergrid_draw.proofs.PrinterLemmas.{printed-none, printed-some}
use Rattle.papergrid_draw.proofs.RefusalLemmas.{empty-drawable}
use Rattle.papergrid_draw.proofs.printer.draw_by.Goals as goal
use Rattle.papergrid_draw.proofs.printer.draw_by.Goals.{then-rows-eq0-via-then-rows-eq0, then-rows-eq0-via-else-rows-eq0+then-columns-eq0}

pub returns-then-rows-eq0 : goal.returns-then-rows-eq0
returns-then-rows-eq0 g c =
    let d = drawn_of g.S.Cells.lines g.S.Cells.color c.args.table.now c.args.cells.now in
    let none : (d.shape.0 ≡ 0) ⊎ (d.shape.1 ≡ 0) = elim c.then-rows-eq0.branch [
      | then-rows-eq0-via-then-rows-eq0 w ↦ inl (omega (arith, ap (λ s. s.0) c.shape-rows.ensures, w.if-rows-eq0.true))
      | then-rows-eq0-via-else-rows-eq0+then-columns-eq0 w ↦ inr (omega (arith, ap (λ s. s.1) c.shape-rows.ensures, w.if-columns-eq0.true))
    ] in
    draws-written g.D.Delivery.takes g.D.Delivery.breaks _ _ d _ _ (empty-drawable d none)
    (subst (λ bytes. Writes g.D.Delivery.takes g.D.Delivery.breaks {A = Unit {0}} c.args.writer.now c.args.writer.now bytes (Ok tt))
    (sym (printed-none d (elim none [ inl rows ↦ inl (eq-eqb d.shape.0 0 rows) | inr columns ↦ inr (eq-eqb d.shape.1 0 columns) ])))
    (writes_in_calls_nil g.D.Delivery.takes c.args.writer.now))

pub draw_table-requires-clause-some : goal.draw_table-requires-clause-some
draw_table-requires-clause-some g c =
    let rows = ap (λ s. s.0) c.shape-rows.ensures in
    let columns = ap (λ s. s.1) c.shape-rows.ensures in
    grind (arith, nat_tests)

pub returns : goal.returns
returns g c =
    let d = drawn_of g.S.Cells.lines g.S.Cells.color c.args.table.now c.args.cells.now in
    let rows = ap (λ s. s.0) c.shape-rows.ensures in
    let columns = ap (λ s. s.1) c.shape-rows.ensures in
    let some : (d.shape.0 == 0) ≡ false = grind (arith, nat_tests) in
    let any : (d.shape.1 == 0) ≡ false = grind (arith, nat_tests) in
    subst (λ bytes. Draws g.D.Delivery.takes g.D.Delivery.breaks d c.args.writer.now c.draw_table.new.writer bytes c.draw_table.result) (sym (printed-some d some any)) c.draw_table.ensures
