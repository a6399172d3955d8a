use Rattle.std.proofs.Common.{Bor, List, sym, ℕ, ◌∙◌}
use Rattle.papergrid_json.proofs.PartLemmas.{named_behind, named_here}
use Rattle.papergrid_json.proofs.forms.form_in.Goals as goal

abbrev word : Bor (List ℕ) × Bor (List ℕ) → List ℕ
word form = form.0.now

pub returns-then-eq : goal.returns-then-eq
returns-then-eq c = sym (named_here word c.args.name.now c.args.forms.now c.loop-form.form-index _ c.loop-form-test.true (sym c.if-eq.ensures)) ∙ c.loop-form.invariant

pub loop-form-preserved : goal.loop-form-preserved
loop-form-preserved c = sym (named_behind word c.args.name.now c.args.forms.now c.loop-form.form-index _ c.loop-form-test.true (sym c.if-eq.ensures)) ∙ c.loop-form.invariant
