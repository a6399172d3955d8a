use Rattle.std.proofs.Common.{◌<◌, subst, sym}
use Rattle.std.proofs.lemmas.Result.{on_ok_weaker}
use Rattle.papergrid_draw.specs.Drawn.{column_stretch, crossing_stretch}
use Rattle.papergrid_draw.specs.ForProofs.Pages.{drawing_of, row_start}
use Rattle.papergrid_draw.proofs.LineLemmas.{frame-columns}
use Rattle.papergrid_draw.proofs.RuleLemmas.{slot-owner}
use Rattle.papergrid_draw.proofs.StretchLemmas.{AddsStretches-append}
use Rattle.papergrid_draw.proofs.page.Frame.push_rule_column.Goals as goal

pub push_crossing-requires : goal.push_crossing-requires
push_crossing-requires g c = subst (λ n. c.args.position.col < n) (sym (frame-columns c.args.self.now)) c.requires.1.column

pub push_stretch-requires : goal.push_stretch-requires
push_stretch-requires g c = c.requires

pub returns-clause-adds : goal.returns-clause-adds
returns-clause-adds g c = on_ok_weaker c.push_stretch.result (λ added texts are.
    let d = drawing_of c.args.self.now.table.now texts in
    let row = c.args.position.row in
    let col = c.args.position.col in
    AddsStretches-append (crossing_stretch d row col) (column_stretch d row col)
    (c.in_ok-push_crossing.ensures texts (λ below. slot-owner d row col (row_start d row) c.args.slot.now (are below)))
    (added texts are))
    c.push_stretch.ensures.adds

pub returns-clause-kept : goal.returns-clause-kept
returns-clause-kept g c = c.push_stretch.ensures.kept
