use Rattle.std.proofs.Common.{Ok, ◌∙◌, ◌<◌, ◌+◌, true, false, ap, subst, arith}
use Rattle.std.proofs.lemmas.Result.{on_ok_weaker}
use Rattle.papergrid_layout.specs.Places.{total_along}
use Rattle.papergrid_layout.specs.Tables.{view_of}
use Rattle.papergrid_values.specs.declared.direction.Direction.TheVariants.{Rows}
use Rattle.papergrid_draw.specs.Drawn.{RuleLine, rule_line}
use Rattle.papergrid_draw.specs.ForProofs.Pages.{drawing_of, row_start}
use Rattle.papergrid_draw.specs.ForProofs.Sheets.{WritesLines, margined}
use Rattle.papergrid_draw.proofs.SheetLemmas.{lines-none, lines-refused}
use Rattle.papergrid_draw.proofs.PrinterLemmas.{line-told, one-margined, rule-within, rule_lines-none, rule_lines-one, text-ruled, text-unruled}
use Rattle.papergrid_draw.proofs.rows.draw_rule.Goals as goal

pub returns-then-is_none-clause-lines : goal.returns-then-is_none-clause-lines
returns-then-is_none-clause-lines g c = λ texts at.
    let d = drawing_of c.args.frame.now.table.now texts in
    let hasnt = line-told c.args.frame.now.table.now texts c.args.row c.horizontal_at.result false at.row_in c.horizontal_at.ensures c.if-is_none.ensures in
    subst (λ lines. WritesLines g.D.Delivery.takes g.D.Delivery.breaks {A = Unit {0}} c.args.writer.now
    c.args.writer.now c.args.sheet.now.begun c.args.sheet.now.begun
    (margined d c.args.sheet.now.written lines) (Ok tt))
    (rule_lines-none d c.args.row hasnt) (lines-none g.D.Delivery.takes g.D.Delivery.breaks _ _ tt)

pub returns-then-is_none-clause-kept : goal.returns-then-is_none-clause-kept
returns-then-is_none-clause-kept g c = λ texts at l.
    text-unruled (drawing_of c.args.frame.now.table.now texts) c.args.row c.args.sheet.now c.args.slots.now at l
    (line-told c.args.frame.now.table.now texts c.args.row c.horizontal_at.result false at.row_in c.horizontal_at.ensures c.if-is_none.ensures)

pub returns-in_err-begin_beside-clause-lines : goal.returns-in_err-begin_beside-clause-lines
returns-in_err-begin_beside-clause-lines g c = λ texts at. lines-refused g.D.Delivery.takes g.D.Delivery.breaks _ _ _ _ _ _ c.from_residual.ensures.1

pub push_rule_line-requires : goal.push_rule_line-requires
push_rule_line-requires g c =
    let told = c.requires in
    let at = told.1 in
    let has = line-told c.args.frame.now.table.now told.0 c.args.row c.horizontal_at.result true at.row_in c.horizontal_at.ensures c.if-is_none.ensures in
    (told.0, (at.each, has, at.kept))

pub returns-in_err-push_rule_line-clause-lines : goal.returns-in_err-push_rule_line-clause-lines
returns-in_err-push_rule_line-clause-lines g c = λ texts at. lines-refused g.D.Delivery.takes g.D.Delivery.breaks _ _ _ _ _ _ c.from_residual-in_err-push_rule_line.ensures.1

pub end_beside-requires : goal.end_beside-requires
end_beside-requires g c =
    let told = c.requires in
    let at = told.1 in
    let d = drawing_of c.args.frame.now.table.now told.0 in
    let has = line-told c.args.frame.now.table.now told.0 c.args.row c.horizontal_at.result true at.row_in c.horizontal_at.ensures c.if-is_none.ensures in
    let within : row_start d c.args.row < total_along (view_of c.args.frame.now.table.now) Rows = rule-within d c.args.row at.row_in has in
    omega (arith, within, c.args.frame.now.read.fit, at.written, c.in_ok-begin_beside.ensures.written)

pub returns-clause-lines : goal.returns-clause-lines
returns-clause-lines g c = λ texts at.
    let d = drawing_of c.args.frame.now.table.now texts in
    let has = line-told c.args.frame.now.table.now texts c.args.row c.horizontal_at.result true at.row_in c.horizontal_at.ensures c.if-is_none.ensures in
    subst (λ lines. WritesLines g.D.Delivery.takes g.D.Delivery.breaks c.args.writer.now c.end_beside.new.writer c.args.sheet.now.begun c.end_beside.new.sheet.begun (margined d c.args.sheet.now.written lines) c.end_beside.result)
    (rule_lines-one d c.args.row has)
    (one-margined d g.D.Delivery.takes g.D.Delivery.breaks _ _ _ _ c.args.sheet.now.written _ (RuleLine (rule_line d c.args.row)) _ _ _
    c.in_ok-begin_beside.ensures.written
    (c.in_ok-begin_beside.ensures.line texts)
    (c.in_ok-push_rule_line.ensures.bytes texts at.row_in at.kept)
    (c.end_beside.ensures.bytes texts)
    c.end_beside.ensures.begun)

pub returns-clause-kept : goal.returns-clause-kept
returns-clause-kept g c =
    on_ok_weaker c.end_beside.result
    (λ more texts at l.
    let has = line-told c.args.frame.now.table.now texts c.args.row c.horizontal_at.result true at.row_in c.horizontal_at.ensures c.if-is_none.ensures in
    text-ruled (drawing_of c.args.frame.now.table.now texts) c.args.row c.args.sheet.now c.end_beside.new.sheet c.args.slots.now c.push_rule_line.new.slots at l has
    (more ∙ ap (λ n. n + 1) c.in_ok-begin_beside.ensures.written) (c.in_ok-push_rule_line.ensures.kept texts l has (at.kept l)))
    c.end_beside.ensures.written
