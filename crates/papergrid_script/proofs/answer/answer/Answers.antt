use Rattle.std.proofs.Common.{◌≡◌, ◌∙◌, ap, refl, ℕ}
use Rattle.std.specs.Prelude.{Vec}
use Rattle.std.specs.declared.alloc.Global.{Global}
use Rattle.papergrid_script.specs.Outputs.{BadLine, bad_line_text, outcome_end, outcome_text}
use Rattle.papergrid_script.specs.Seen.{table_seen}
use Rattle.papergrid_script.specs.declared.answer.RunEnd.{RunEnd}
use Rattle.papergrid_script.proofs.OutcomeLemmas.{of-estimate}
use Rattle.papergrid_script.proofs.answer.answer.Goals as goal

pub returns-in-Err-Bad : goal.returns-in-Err-Bad
returns-in-Err-Bad c =
    let is = rw (c.in-Err-Bad.is, c.in-Err-Bad.field-0-is) at c.read_script.ensures.script in
    (BadLine _, is, (refl, c.in_ok-bad_script_text-in-Err-Bad.ensures ∙ ap bad_line_text c.in-Err-Bad.number-is))

pub returns : goal.returns
returns c =
    let is = rw c.in-Ok.is at c.read_script.ensures.script in
    of-estimate c.args.sizing c.args.input.now (table_seen c.in-Ok.script) is (λ (answer : RunEnd × Vec ℕ Global) outcome. (answer.0 ≡ outcome_end outcome) × (answer.1.items ≡ outcome_text outcome))
    c.table_answer.result c.table_answer.ensures
