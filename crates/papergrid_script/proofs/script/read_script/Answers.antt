use Rattle.std.proofs.Common.{◌≡◌, Err, ap, arith, sym, ◌∙◌}
use Rattle.papergrid_script.specs.ForProofs.Read.{table_of}
use Rattle.papergrid_script.specs.Seen.{GivesScript}
use Rattle.papergrid_script.proofs.CutLemmas.{all_given, fault_given, line_given}
use Rattle.papergrid_script.proofs.RangeLemmas.{given_in_range}
use Rattle.papergrid_script.proofs.ScriptLemmas.{gives-script, script-read}
use Rattle.papergrid_script.proofs.script.read_script.Goals.{else-text-input-via-then-text-input+else-is_ok, else-text-input-via-else-text-input}
use Rattle.papergrid_script.proofs.script.read_script.Goals as goal

pub returns-then-is_ok-clause-script : goal.returns-then-is_ok-clause-script
returns-then-is_ok-clause-script c =
    let front = c.text_in_front-text.ensures in
    script-read c.args.input.now (Err _) (
    line_given _ _ c.script_of_text-read.result front.front (front.longest c.if-text-input.true) (sym c.is_ok.ensures.value ∙ c.if-is_ok.true) c.script_of_text-read.ensures
    ∙ ap (λ n. Err n) (sym c.count_lines.ensures.lines))

pub returns-then-is_ok-clause-in_range : goal.returns-then-is_ok-clause-in_range
returns-then-is_ok-clause-in_range c = tt

pub returns : goal.returns
returns c =
    let front = c.text_in_front-text.ensures in
    let told : GivesScript c.script_of_text-read.result (λ script. table_of c.args.input.now ≡ script) =
    elim c.else-text-input.branch [
      | else-text-input-via-then-text-input+else-is_ok w ↦ fault_given _ _ c.script_of_text-read.result front.front (front.longest w.if-text-input.true) (sym w.is_ok.ensures.value ∙ w.if-is_ok.false) c.script_of_text-read.ensures
      | else-text-input-via-else-text-input w ↦ all_given _ _ c.script_of_text-read.result front.front (let e = w.if-text-input.false in omega arith) c.script_of_text-read.ensures
    ] in
    record { script = gives-script c.args.input.now c.script_of_text-read.result told; in_range = given_in_range c.script_of_text-read.result }
