use Rattle.std.proofs.Common.{◌≡◌, Some, sym, ◌∙◌}
use Rattle.papergrid_text.specs.ForProofs.Parts.{part_of}
use Rattle.papergrid_text.proofs.StepLemmas.{IsPlainly, adds, emoji_base, modifier_base, plainly_other}
use Rattle.papergrid_text.proofs.width.emoji.step_back.Goals as goal
use Rattle.papergrid_text.proofs.width.emoji.step_back.Goals.{in_default-via-in-Selector+else-is_selected_base, in_default-via-in-Modifier+else-is_toned_base, in_default-via-in_default}

pub returns-in-Selector-clause-step : goal.returns-in-Selector-clause-step
returns-in-Selector-clause-step c = λ total. rw c.in-Selector.is (emoji_base c.args.c total (sym c.is_selected_base.ensures ∙ c.if-is_selected_base.true))

pub returns-in-Modifier-clause-step : goal.returns-in-Modifier-clause-step
returns-in-Modifier-clause-step c = λ total. rw c.in-Modifier.is (modifier_base c.args.c total (sym c.is_toned_base.ensures ∙ c.if-is_toned_base.true))

pub returns-in_ok-part_of-in_default-clause-step : goal.returns-in_ok-part_of-in_default-clause-step
returns-in_ok-part_of-in_default-clause-step c =
    let part : part_of c.args.c ≡ Some c.in_ok-part_of-in_default.field-0 = sym c.part_of.ensures ∙ c.in_ok-part_of-in_default.was in
    let plainly : IsPlainly c.args.c c.args.after =
    elim c.in_default.branch [
      | in_default-via-in-Selector+else-is_selected_base w ↦ rw w.in-Selector.is (sym w.is_selected_base.ensures ∙ w.if-is_selected_base.false)
      | in_default-via-in-Modifier+else-is_toned_base w ↦ rw w.in-Modifier.is (sym w.is_toned_base.ensures ∙ w.if-is_toned_base.false)
      | in_default-via-in_default w ↦ plainly_other c.args.c c.args.after w.in_default.not-Selector w.in_default.not-Modifier
    ] in
    rw c.add_before.ensures (adds c.in_ok-part_of-in_default.field-0 c.args.c c.args.after part plainly)
