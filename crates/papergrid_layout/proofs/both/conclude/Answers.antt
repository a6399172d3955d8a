use Rattle.std.proofs.Common.{◌∙◌, subst, sym}
use Rattle.std.proofs.lemmas.Result.{err_from_is_err_and}
use Rattle.papergrid_tracks.specs.Sizings.{IsRefused, IsSolvedBy}
use Rattle.papergrid_values.specs.declared.direction.Direction.TheVariants.{Columns, Rows}
use Rattle.papergrid_tracks.specs.ForProofs.LeastSettled.{CertifiesInOrder}
use Rattle.papergrid_walk.specs.Cells.{demands_of, problem_of, problem_with}
use Rattle.papergrid_walk.proofs.Distinct.{in_order-demands}
use Rattle.papergrid_layout.proofs.AnswerLemmas.{refused_along}
use Rattle.papergrid_layout.proofs.CertifiedLemmas.{solved-in_order}
use Rattle.papergrid_layout.proofs.PairLemmas.{none_out, out_of_both, seen_high}
use Rattle.papergrid_layout.proofs.both.conclude.Goals as goal

pub returns-in-Some : goal.returns-in-Some
returns-in-Some g c = λ cells many kept.
    sym (out_of_both (g.S.ConfigView.grid c.args.settings.now) g.M.Measure.measured c.args.columns cells c.args.both.now kept c.args.rows many) ∙ sym c.find_out_of_both.ensures ∙ c.in-Some.is

pub returns-in_err-widths : goal.returns-in_err-widths
returns-in_err-widths g c = λ cells many kept.
    let grid = g.S.ConfigView.grid c.args.settings.now in
    let measured = g.M.Measure.measured in
    let none = none_out grid measured c.args.columns cells c.args.both.now kept c.args.rows many (sym c.find_out_of_both.ensures ∙ c.in_default.is) in
    let p = err_from_is_err_and c.from_residual.result c.from_residual.ensures.1 in
    rw (p.1, p.2) (refused_along grid measured c.args.columns cells g.T.Solver.sizing Columns none.0 none.1 _
    (c.in_err-widths.ensures (demands_of Columns grid measured cells) kept.wide))

pub returns-in_err-heights : goal.returns-in_err-heights
returns-in_err-heights g c = λ cells many kept.
    let grid = g.S.ConfigView.grid c.args.settings.now in
    let measured = g.M.Measure.measured in
    let none = none_out grid measured c.args.columns cells c.args.both.now kept c.args.rows many (sym c.find_out_of_both.ensures ∙ c.in_default.is) in
    let p = err_from_is_err_and c.from_residual-in_err-heights.result c.from_residual-in_err-heights.ensures.1 in
    let refused = c.in_err-heights.ensures (demands_of Rows grid measured cells) (seen_high grid measured c.args.columns cells c.args.both.now kept c.args.rows many) in
    rw (p.1, p.2) (refused_along grid measured c.args.columns cells g.T.Solver.sizing Rows none.0 none.2 c.in_err-heights.field-0.0
    (subst (λ n. IsRefused g.T.Solver.sizing (problem_with grid measured Rows n cells) c.in_err-heights.field-0.0) many refused))

pub returns : goal.returns
returns g c = λ cells many kept.
    let grid = g.S.ConfigView.grid c.args.settings.now in
    let measured = g.M.Measure.measured in
    let high = c.in_ok-heights.ensures (demands_of Rows grid measured cells) (seen_high grid measured c.args.columns cells c.args.both.now kept c.args.rows many) in
    let sizing = g.T.Solver.sizing in
    record {
      widths = solved-in_order sizing c.args.certify (problem_of grid measured c.args.columns cells Columns) (in_order-demands Columns grid measured cells) c.in_ok-widths.widths
          (c.in_ok-widths.ensures (demands_of Columns grid measured cells) kept.wide);
      heights = solved-in_order sizing c.args.certify (problem_of grid measured c.args.columns cells Rows) (in_order-demands Rows grid measured cells) c.in_ok-heights.heights
          (subst (λ n. IsSolvedBy sizing (CertifiesInOrder sizing) c.args.certify (problem_with grid measured Rows n cells) c.in_ok-heights.heights) many high);
    }
