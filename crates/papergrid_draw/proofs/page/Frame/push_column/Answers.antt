use Rattle.std.proofs.Common.{arith, refl, string_bytes}
use Rattle.std.proofs.lemmas.Result.{on_ok_weaker}
use Rattle.papergrid_draw.specs.ForProofs.Pages.{drawing_of}
use Rattle.papergrid_draw.proofs.LineLemmas.{column-added, column-skipped, slot-drawn}
use Rattle.papergrid_draw.proofs.page.Frame.push_column.Goals as goal

pub push_line_before-requires : goal.push_line_before-requires
push_line_before-requires g c = omega (arith, c.requires.0)

pub returns-in_default : goal.returns-in_default
returns-in_default g c = λ texts same is.
    let d = drawing_of c.args.self.now.table.now texts in
    let position = c.args.position in
    let slot = c.args.slot.now in
    let old = string_bytes c.args.line.now in (
      column-skipped d position.row position.col c.args.k slot is old old c.in_default.is refl,
      slot-drawn d position.row position.col c.args.k slot is,
    )

pub returns : goal.returns
returns g c = on_ok_weaker c.push_line.result (λ added texts same is.
    let d = drawing_of c.args.self.now.table.now texts in
    let position = c.args.position in
    let slot = c.args.slot.now in (
      column-added d position.row position.col c.args.k slot is (string_bytes c.args.line.now) (string_bytes c.push_line_before.new.line)
          (string_bytes c.push_line.new.line) c.in-Some.block c.in-Some.is (c.in_ok-push_line_before.ensures texts same) added,
      slot-drawn d position.row position.col c.args.k slot is,
    ))
    c.push_line.ensures
