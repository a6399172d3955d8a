use Rattle.std.proofs.Common.{◌∙◌, ap}
use Rattle.std.specs.Prelude.{Ok}
use Rattle.std.specs.Vec.Iter.{into_iter_items}
use Rattle.std.proofs.lemmas.Result.{err_from_is_err_and}
use Rattle.papergrid_script.specs.Arguments.{said_by}
use Rattle.papergrid_table.specs.Arguments.{next_said, unsaid}
use Rattle.papergrid_table.specs.ForProofs.Drafts.{said_of}
use Rattle.papergrid_table.proofs.WordLemmas.{asked-refused}
use Rattle.papergrid_table.proofs.arguments.asked_for.Goals as goal

pub returns-in_err-take-clause-told : goal.returns-in_err-take-clause-told
returns-in_err-take-clause-told c =
    let p = err_from_is_err_and c.from_residual.result c.from_residual.ensures.1 in
    let all = said_by next_said (Ok unsaid) (into_iter_items c.args.words) in
    let is = c.loop-word.invariant ∙ ap (said_by next_said (Ok (said_of c.loop-word.draft))) c.in-Some.ensures.steps.0 in
    rw (p.1, p.2) (asked-refused all (next_said (said_of c.loop-word.draft) c.in-Some.word) _ c.in_err-take.field-0.0 is c.in_err-take.ensures)
