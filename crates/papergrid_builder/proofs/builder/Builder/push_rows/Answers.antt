use Rattle.std.proofs.Common.{◌≡◌, ◌<◌, None, arith, false, subst}
use Rattle.std.proofs.lemmas.Bool.Decides.{nat_tests}
use Rattle.papergrid_builder.specs.BuilderStates.{BuilderState, rows_in, with_more_rows}
use Rattle.papergrid_builder.specs.ForProofs.Kept.{told_by}
use Rattle.papergrid_builder.proofs.TextLemmas.{rows-utf8}
use Rattle.papergrid_builder.proofs.builder.Builder.push_rows.Goals as goal

pub returns-clause-ok : goal.returns-clause-ok
returns-clause-ok c =
    let cell : c.args.cell_end < 128 = grind (arith, nat_tests, c.if-not-is_ascii.false, c.is_ascii.ensures) in
    let row : c.args.row_end < 128 = grind (arith, nat_tests, c.if-not-is_ascii-2.false, c.is_ascii-else-not-is_ascii.ensures) in
    let texts = rows-utf8 c.args.cell_end c.args.row_end c.args.text.now cell row c.in-Ok.ensures.cases.1 in
    let inside = c.self.inside in
    let told : told_by inside.settings.items c.add_rows.new.cells c.add_rows.new.starts.items false None inside.picture.items
    ≡ with_more_rows c.args.self.now (rows_in c.args.cell_end c.args.row_end c.in-Ok.text.now) =
    subst (λ (table : BuilderState). told_by inside.settings.items c.add_rows.new.cells c.add_rows.new.starts.items false None inside.picture.items
    ≡ with_more_rows table (rows_in c.args.cell_end c.args.row_end c.in-Ok.text.now)) c.self.view_is
    (λ i. record { settings = inside.settings.items; rows = c.in_ok-add_rows.ensures.ok i; goes_on = false; found = None; picture = inside.picture.items }) in
    ((cell, row), c.in-Ok.ensures.cases.1, texts, rw c.in-Ok.ensures.cases.0 at told)
