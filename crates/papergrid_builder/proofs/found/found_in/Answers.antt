use Rattle.std.proofs.lemmas.Result.{err_from_is_err_and}
use Rattle.papergrid_layout.proofs.MadeLemmas.{chosen-fit}
use Rattle.papergrid_walk.specs.Measures.{text_measure}
use Rattle.papergrid_builder.specs.BuilderStates.{longest}
use Rattle.papergrid_builder.specs.ForProofs.Texts.{rows_lent}
use Rattle.papergrid_builder.specs.ForProofs.Kept.{found_of}
use Rattle.papergrid_builder.proofs.DrawLemmas.{not-found, totals-found}
use Rattle.papergrid_builder.proofs.found.found_in.Goals as goal

pub returns-in_err-along-clause-err : goal.returns-in_err-along-clause-err
returns-in_err-along-clause-err c =
    let p = err_from_is_err_and c.from_residual-in_err-along.result c.from_residual-in_err-along.ensures.1 in
    rw (p.1, p.2)
    (not-found c.in_ok-config.config (rows_lent c.args.rows.now) c.args.sizing c.args.settings.now.items c.in_ok-config.ensures c.in_err-along.field-0.0 c.in_err-along.ensures.err)

pub returns-clause-ok : goal.returns-clause-ok
returns-clause-ok c =
    let rows = rows_lent c.args.rows.now in
    let found = c.in_ok-along.ensures.ok in
    record {
      configured = c.in_ok-config.ensures;
      sized = found;
      totals = totals-found rows (found_of (record { config = c.in_ok-config.config; along = c.in_ok-along.along })) c.args.sizing found;
      fit = chosen-fit c.args.sizing c.in_ok-config.config text_measure (longest rows) rows _ _ (record { widths = found.widths.sizes; heights = found.heights.sizes });
    }
