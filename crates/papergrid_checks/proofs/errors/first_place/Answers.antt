use Rattle.papergrid_config.specs.Grids.{spanned_grid}
use Rattle.papergrid_checks.proofs.RowLemmas.{with_grid}
use Rattle.papergrid_checks.proofs.errors.first_place.Goals as goal

pub returns : goal.returns
returns c =
    let read = c.grid_by_settings.ensures.read c.args.settings.items c.in_ok-config.config c.in_ok-config.ensures in
    with_grid c.args.settings.items (spanned_grid c.in_ok-config.config) read _ c.place_in.result (rw c.new.ensures at c.place_in.ensures)
