use Rattle.std.proofs.Common.{◌≡◌, ◌∙◌, Some, ap, subst, sym}
use Rattle.std.specs.Prelude.{Option, option_copied, string_bytes}
use Rattle.std.proofs.lemmas.Result.{err_from_is_err_and}
use Rattle.papergrid_table.specs.Arguments.{IsMisuseOf, WordsSaid, GivenOptions, of_option, option_taken, with_option_word}
use Rattle.papergrid_table.specs.Options.{known, option_told}
use Rattle.papergrid_table.specs.ForProofs.Drafts.{said_of}
use Rattle.papergrid_table.specs.declared.options.Valued.{Valued}
use Rattle.papergrid_table.proofs.ChosenLemmas.{refused-before}
use Rattle.papergrid_table.proofs.arguments.Draft.take_option.Goals as goal

pub returns-in_err-self-in-Some : goal.returns-in_err-self-in-Some
returns-in_err-self-in-Some c =
    let option = known c.in-Some.option in
    let value = option_copied c.in-Some.value in
    let told : option_told (string_bytes c.args.word) ≡ Some (option, value) = sym (c.in-Some.ensures ∙ ap option_told c.as_str.ensures.value) in
    let p = err_from_is_err_and c.from_residual.result c.from_residual.ensures.1 in
    let misuse = c.in_err-self-in-Some.field-0.0 in
    let after : Option Valued × GivenOptions → WordsSaid = λ after. record (said_of c.args.self.now) { waits = after.0; told = after.1 } in
    let refused = refused-before after (option_taken option.choice value (of_option option (said_of c.args.self.now).told)) misuse c.in_err-self-in-Some.ensures in
    rw (p.1, p.2) (subst (λ told. IsMisuseOf (with_option_word c.args.word told (said_of c.args.self.now)) misuse) (sym told) refused)
