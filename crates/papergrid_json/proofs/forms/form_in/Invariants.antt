use Rattle.std.proofs.Common.{◌≡◌, drop, map}
use Rattle.papergrid_json.specs.Values.{is_named}
use Rattle.papergrid_json.proofs.forms.form_in.Given as goal

abbrev pub invariant-loop-form : goal.invariant-loop-form
invariant-loop-form l =
    let names = map (λ form. form.0.now) l.forms in
    is_named l.name (drop l.form-index names) ≡ is_named l.name names
