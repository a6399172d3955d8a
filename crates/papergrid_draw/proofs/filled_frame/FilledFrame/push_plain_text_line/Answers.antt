use Rattle.std.proofs.Common.{◌++◌, ◌∙◌, ap, arith, string_bytes, sym}
use Rattle.std.proofs.lemmas.Result.{on_ok_weaker}
use Rattle.papergrid_values.specs.Positions.{position_of}
use Rattle.papergrid_draw.specs.Bytes.{pieces_bytes}
use Rattle.papergrid_draw.specs.Contents.{block_at, content}
use Rattle.papergrid_draw.specs.Drawn.{column_pieces, vertical_pieces}
use Rattle.papergrid_draw.specs.ForProofs.FilledFrames.{filled}
use Rattle.papergrid_draw.proofs.SheetLemmas.{told_texts}
use Rattle.papergrid_draw.proofs.LineLemmas.{added-pieces, column-more, frame-columns, line-done}
use Rattle.papergrid_draw.proofs.PlainLemmas.{plain-column}
use Rattle.papergrid_draw.proofs.RuleLemmas.{columns-all}
use Rattle.papergrid_draw.proofs.filled_frame.FilledFrame.push_plain_text_line.Goals as goal

pub push_line_before-requires : goal.push_line_before-requires
push_line_before-requires g c = omega arith

pub loop-col-preserved : goal.loop-col-preserved
loop-col-preserved g c =
    let texts = told_texts g.S.Cells.lines g.S.Cells.color c.args.self.now.cells.now in
    let d = filled g.S.Cells.lines g.S.Cells.color c.args.self.now in
    let row = c.args.row in
    let col = c.loop-col.col in
    let line = string_bytes c.loop-col.line in
    column-more (column_pieces d row 0) col (string_bytes c.args.line.now) line (string_bytes c.push_cell.new.line) c.loop-col.invariant
    (added-pieces line (string_bytes c.push_line_before.new.line) (string_bytes c.push_cell.new.line)
    (vertical_pieces d row col 0) (content (block_at d (position_of (row, col))) 0)
    (c.in_ok-push_line_before.ensures texts (sym c.requires.low)) c.in_ok-push_cell.ensures
    ∙ ap (λ pieces. line ++ pieces_bytes pieces) (plain-column d c.requires.plain row 0 col))

pub push_line_before-requires-2 : goal.push_line_before-requires-2
push_line_before-requires-2 g c = omega arith

pub returns : goal.returns
returns g c = on_ok_weaker c.push_line_before-2.result (λ added.
    let texts = told_texts g.S.Cells.lines g.S.Cells.color c.args.self.now.cells.now in
    let frame = c.args.self.now.frame.now in
    let all = columns-all frame c.loop-col.col c.loop-col-test.false c.loop-col.auto.col-end in
    line-done (filled g.S.Cells.lines g.S.Cells.color c.args.self.now) c.args.row 0 c.loop-col.col frame.shape.1
    (string_bytes c.args.line.now) (string_bytes c.loop-col.line) (string_bytes c.push_line_before-2.new.line) all (frame-columns frame) c.loop-col.invariant
    (added texts (sym c.requires.low)))
    c.push_line_before-2.ensures
