use Rattle.papergrid_tracks.proofs.BySizing.{AreSizes}
use Rattle.std.proofs.Common.{◌≡◌, ◌<◌, ◌∙◌, arith, length}
use Rattle.std.proofs.lemmas.List.{length-map}
use Rattle.papergrid_config.specs.Grids.{spanned_grid}
use Rattle.papergrid_checks.specs.Rows.{cells_of, lent_measure}
use Rattle.papergrid_checks.proofs.RowLemmas.{both_told}
use Rattle.papergrid_checks.proofs.errors.place_in.Goals as goal

pub place-requires-clause-columns : goal.place-requires-clause-columns
place-requires-clause-columns c =
    let gave = rw c.in_ok-context.ensures at c.estimate.ensures.ok in
    let told = rw c.new.ensures at gave in
    let many : length c.estimate.new.self.widths ≡ 3 = told.2.widths.fits.one_each in
    λ column below. let small : column < 3 = below in omega (arith, many, small)

pub place-requires-clause-rows : goal.place-requires-clause-rows
place-requires-clause-rows c =
    let gave = rw c.in_ok-context.ensures at c.estimate.ensures.ok in
    let told = rw c.new.ensures at gave in
    let both = both_told (spanned_grid c.args.config.now) (λ cell. cell.now) lent_measure 3 (cells_of c.args.rows.now) told.0 told.1 AreSizes c.estimate.new.self.widths c.estimate.new.self.heights told.2 in
    let many : length c.estimate.new.self.heights ≡ length c.args.rows.now = both.heights.fits.one_each ∙ length-map c.args.rows.now (λ row. row.items) in
    λ row below. let small : row < length c.args.rows.now = below in omega (arith, many, small)

pub returns : goal.returns
returns c =
    let gave = rw c.in_ok-context.ensures at c.estimate.ensures.ok in
    let told = rw c.new.ensures at gave in
    let both = both_told (spanned_grid c.args.config.now) (λ cell. cell.now) lent_measure 3 (cells_of c.args.rows.now) told.0 told.1 AreSizes c.estimate.new.self.widths c.estimate.new.self.heights told.2 in
    (c.estimate.new.self.widths, c.estimate.new.self.heights, both, c.in_ok-place.ensures.exact)
