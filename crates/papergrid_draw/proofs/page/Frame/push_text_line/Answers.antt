use Rattle.std.proofs.Common.{arith, get_or, rules, ◌<◌, ◌+◌, length, string_bytes, subst, sym}
use Rattle.std.proofs.lemmas.List.{append-nil}
use Rattle.std.proofs.lemmas.Result.{on_ok_weaker}
use Rattle.papergrid_draw.specs.Drawn.{column_pieces}
use borrow.Author.Rules.{scaled_Fits}
use Rattle.papergrid_draw.specs.ForProofs.Pages.{drawing_of, text_start}
use Rattle.papergrid_draw.proofs.LineLemmas.{column-more, drawn-within, frame-columns, line-done, slot-there, slot-waits}
use Rattle.papergrid_draw.proofs.RuleLemmas.{column-in, columns-all, columns-past}
use Rattle.papergrid_draw.proofs.SlotLemmas.{slots-end, slots-start, slots-step}
use Rattle.papergrid_draw.proofs.page.Frame.push_text_line.Goals as goal

pub get_height-height-requires : goal.get_height-height-requires
get_height-height-requires g c = c.requires.1.0

pub loop-col-init : goal.loop-col-init
loop-col-init g c = λ texts are.
    let start = text_start (drawing_of c.args.self.now.table.now texts) c.args.row in (
      sym (append-nil (string_bytes c.args.line.now)),
      slots-start (drawing_of c.args.self.now.table.now texts) c.args.row (start + c.args.k) (start + (c.args.k + 1)) c.args.slots.now are,
    )

pub offset_bounds-slots-col : goal.offset_bounds-slots-col
offset_bounds-slots-col g c =
    let within : c.loop-col.col < length c.args.slots.now = slot-there c.args.self.now c.requires.0 c.args.row c.loop-col.col _ c.args.slots.now c.requires.1.2 c.loop-col-test.true in
    scaled_Fits _ _ _ within (search rules)

pub bounds-slots-col : goal.bounds-slots-col
bounds-slots-col g c =
    slot-there c.args.self.now c.requires.0 c.args.row c.loop-col.col _ c.loop-col.slots (c.loop-col.invariant c.requires.0 c.requires.1.2).1 c.loop-col-test.true

pub push_column-requires : goal.push_column-requires
push_column-requires g c =
    let d = drawing_of c.args.self.now.table.now c.requires.0 in
    let inside = column-in c.args.self.now c.loop-col.col c.loop-col-test.true in
    let start = text_start d c.args.row in
    let waits = slot-waits d c.args.row c.loop-col.col (start + c.args.k) (start + (c.args.k + 1)) c.loop-col.slots c.index-slots-col.result inside
    (c.loop-col.invariant c.requires.0 c.requires.1.2).1 in (
      c.loop-col-test.true,
      subst (λ n. (get_or c.loop-col.slots c.loop-col.col c.index-slots-col.result).drawn < n) (sym c.args.self.now.read.high)
          (drawn-within d c.args.row c.loop-col.col c.args.k _ waits c.requires.1.0 c.requires.1.1),
    )

pub loop-col-preserved : goal.loop-col-preserved
loop-col-preserved g c = λ texts are.
    let d = drawing_of c.args.self.now.table.now texts in
    let inside = column-in c.args.self.now c.loop-col.col c.loop-col-test.true in
    let start = text_start d c.args.row in
    let kept = c.loop-col.invariant texts are in
    let waits = slot-waits d c.args.row c.loop-col.col (start + c.args.k) (start + (c.args.k + 1)) c.loop-col.slots c.index-slots-col.result inside kept.1 in
    let added = c.in_ok-push_column.ensures texts (c.get_height-height.ensures) waits in (
      column-more (column_pieces d c.args.row c.args.k) c.loop-col.col (string_bytes c.args.line.now) (string_bytes c.loop-col.line)
          (string_bytes c.push_column.new.line) kept.0 added.0,
      slots-step d c.args.row c.loop-col.col (start + c.args.k) (start + (c.args.k + 1)) c.loop-col.slots c.push_column.new.slot inside kept.1 added.1,
    )

pub push_line_before-requires : goal.push_line_before-requires
push_line_before-requires g c = omega arith

pub returns : goal.returns
returns g c = on_ok_weaker c.push_line_before.result (λ added texts are.
    let d = drawing_of c.args.self.now.table.now texts in
    let wide = frame-columns c.args.self.now in
    let all = columns-all c.args.self.now c.loop-col.col c.loop-col-test.false c.loop-col.auto.col-end in
    let start = text_start d c.args.row in
    let kept = c.loop-col.invariant texts are in (
      line-done d c.args.row c.args.k c.loop-col.col c.args.self.now.shape.1 (string_bytes c.args.line.now) (string_bytes c.loop-col.line)
          (string_bytes c.push_line_before.new.line) all wide kept.0
          (added texts (c.get_height-height.ensures)),
      slots-end d c.args.row (start + c.args.k) (start + (c.args.k + 1)) c.loop-col.col c.loop-col.slots
          (columns-past c.args.self.now c.loop-col.col c.loop-col-test.false) kept.1,
    ))
    c.push_line_before.ensures
