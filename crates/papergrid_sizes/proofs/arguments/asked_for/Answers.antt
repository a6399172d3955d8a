use Rattle.std.proofs.Common.{◌≡◌, ◌∙◌, Err, Ok, ap, sym}
use Rattle.std.specs.Prelude.{unwrap_or}
use Rattle.std.specs.Result.{result_map_both}
use Rattle.std.specs.Vec.Iter.{into_iter_items}
use Rattle.std.proofs.lemmas.Result.{err_from_is_err_and}
use Rattle.papergrid_script.specs.Arguments.{said_by}
use Rattle.papergrid_script.specs.declared.program.arguments.Request.TheVariants.{OfInput}
use Rattle.papergrid_script.proofs.ArgumentLemmas.{said-refused}
use Rattle.papergrid_sizes.specs.Arguments.{Requested, next_requested, nothing_requested}
use Rattle.papergrid_sizes.specs.ForProofs.Drafts.{requested_by}
use Rattle.papergrid_sizes.proofs.arguments.asked_for.Goals as goal

pub returns-in_err-take : goal.returns-in_err-take
returns-in_err-take c =
    let p = err_from_is_err_and c.from_residual.result c.from_residual.ensures.1 in
    let word = c.in_err-take.field-0.0 in
    let rest = into_iter_items c.next.new.self in
    let refused : said_by next_requested (Ok nothing_requested) (into_iter_items c.args.words) ≡ Err word =
    c.loop-word.invariant ∙ ap (said_by next_requested (Ok (requested_by c.loop-word.draft))) c.in-Some.ensures.steps.0
    ∙ ap (λ said. said_by next_requested said rest) (sym c.in_err-take.ensures) ∙ said-refused next_requested rest word in
    rw (p.1, p.2) (sym (ap (result_map_both (λ (said : Requested). (unwrap_or said.asked OfInput, said.wanted)) (λ word. word)) refused))
