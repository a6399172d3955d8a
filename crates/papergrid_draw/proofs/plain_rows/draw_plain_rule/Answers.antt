use Rattle.std.proofs.Common.{Ok, None, [], ◌∷◌, ◌≡◌, ◌<◌, ℕ, true, false, cond, ap, subst, arith}
use Rattle.std.proofs.lemmas.Result.{on_ok_weaker}
use Rattle.papergrid_layout.specs.Places.{total_along}
use Rattle.papergrid_layout.specs.Tables.{view_of}
use Rattle.papergrid_values.specs.declared.direction.Direction.TheVariants.{Rows}
use Rattle.papergrid_draw.specs.Drawn.{RuleLine, draws_horizontal, rule_line}
use Rattle.papergrid_draw.specs.ForProofs.Pages.{Texts, drawing_of, row_start}
use Rattle.papergrid_draw.specs.ForProofs.Sheets.{WritesLines, margined}
use Rattle.papergrid_draw.proofs.SheetLemmas.{lines-none, lines-refused}
use Rattle.papergrid_draw.proofs.PrinterLemmas.{line-told, one-margined, rule-within, rule_lines-none, rule_lines-one, text-after}
use Rattle.papergrid_draw.proofs.plain_rows.draw_plain_rule.Goals as goal

pub returns-then-is_none-clause-lines : goal.returns-then-is_none-clause-lines
returns-then-is_none-clause-lines g c = λ texts.
    let parts = c.args.frame.now.table.now in
    let d = drawing_of parts texts in
    let hasnt = line-told parts texts c.args.row c.horizontal_at.result false c.requires.row_in c.horizontal_at.ensures c.if-is_none.ensures in
    subst (λ lines. WritesLines g.D.Delivery.takes g.D.Delivery.breaks {A = Unit {0}} c.args.writer.now c.args.writer.now c.args.sheet.now.begun c.args.sheet.now.begun
    (margined d (row_start d c.args.row) lines) (Ok tt))
    (rule_lines-none d c.args.row hasnt) (lines-none g.D.Delivery.takes g.D.Delivery.breaks _ _ tt)

pub returns-then-is_none-clause-written : goal.returns-then-is_none-clause-written
returns-then-is_none-clause-written g c = λ texts below.
    let parts = c.args.frame.now.table.now in
    let d = drawing_of parts texts in
    let hasnt = line-told parts texts c.args.row c.horizontal_at.result false c.requires.row_in c.horizontal_at.ensures c.if-is_none.ensures in
    let none : cond {A = ℕ} (draws_horizontal d c.args.row) 1 0 ≡ 0 = ap (λ b. cond {A = ℕ} b 1 0) hasnt in
    omega (arith, c.requires.start texts, text-after d c.args.row, none)

pub returns-in_err-begin_beside-clause-lines : goal.returns-in_err-begin_beside-clause-lines
returns-in_err-begin_beside-clause-lines g c = λ texts. lines-refused g.D.Delivery.takes g.D.Delivery.breaks _ _ _ _ _ _ c.from_residual.ensures.1

pub push_plain_rule_line-requires : goal.push_plain_rule_line-requires
push_plain_rule_line-requires g c = record {
  plain = c.requires.plain;
  common = c.requires.common;
  row_in = c.requires.row_in;
}

pub returns-in_err-push_plain_rule_line-clause-lines : goal.returns-in_err-push_plain_rule_line-clause-lines
returns-in_err-push_plain_rule_line-clause-lines g c = λ texts. lines-refused g.D.Delivery.takes g.D.Delivery.breaks _ _ _ _ _ _ c.from_residual-in_err-push_plain_rule_line.ensures.1

pub end_beside-requires : goal.end_beside-requires
end_beside-requires g c =
    let parts = c.args.frame.now.table.now in
    let texts : Texts = record { lines = λ _. []; color = λ _. None } in
    let d = drawing_of parts texts in
    let has = line-told parts texts c.args.row c.horizontal_at.result true c.requires.row_in c.horizontal_at.ensures c.if-is_none.ensures in
    let within : row_start d c.args.row < total_along (view_of parts) Rows = rule-within d c.args.row c.requires.row_in has in
    omega (arith, within, c.args.frame.now.read.fit, c.requires.start texts, c.in_ok-begin_beside.ensures.written)

pub returns-clause-lines : goal.returns-clause-lines
returns-clause-lines g c = λ texts.
    let parts = c.args.frame.now.table.now in
    let d = drawing_of parts texts in
    let has = line-told parts texts c.args.row c.horizontal_at.result true c.requires.row_in c.horizontal_at.ensures c.if-is_none.ensures in
    subst (λ lines. WritesLines g.D.Delivery.takes g.D.Delivery.breaks c.args.writer.now c.end_beside.new.writer c.args.sheet.now.begun c.end_beside.new.sheet.begun
    (margined d (row_start d c.args.row) lines) c.end_beside.result)
    (rule_lines-one d c.args.row has)
    (subst (λ y. WritesLines g.D.Delivery.takes g.D.Delivery.breaks c.args.writer.now c.end_beside.new.writer c.args.sheet.now.begun c.end_beside.new.sheet.begun
    (margined d y (RuleLine (rule_line d c.args.row) ∷ [])) c.end_beside.result) (c.requires.start texts)
    (one-margined d g.D.Delivery.takes g.D.Delivery.breaks _ _ _ _ c.args.sheet.now.written _ (RuleLine (rule_line d c.args.row)) _ _ _
    c.in_ok-begin_beside.ensures.written
    (c.in_ok-begin_beside.ensures.line texts)
    (c.in_ok-push_plain_rule_line.ensures.bytes texts)
    (c.end_beside.ensures.bytes texts)
    c.end_beside.ensures.begun))

pub returns-clause-common : goal.returns-clause-common
returns-clause-common g c = on_ok_weaker c.end_beside.result (λ written. c.in_ok-push_plain_rule_line.ensures.common) c.end_beside.ensures.written

pub returns-clause-written : goal.returns-clause-written
returns-clause-written g c = on_ok_weaker c.end_beside.result (λ more texts below.
    let parts = c.args.frame.now.table.now in
    let d = drawing_of parts texts in
    let has = line-told parts texts c.args.row c.horizontal_at.result true c.requires.row_in c.horizontal_at.ensures c.if-is_none.ensures in
    let one : cond {A = ℕ} (draws_horizontal d c.args.row) 1 0 ≡ 1 = ap (λ b. cond {A = ℕ} b 1 0) has in
    omega (arith, more, c.in_ok-begin_beside.ensures.written, c.requires.start texts, text-after d c.args.row, one))
    c.end_beside.ensures.written
