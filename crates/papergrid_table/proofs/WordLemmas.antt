-- What words ask for, of which one is refused.
use Rattle.std.proofs.Common.{◌≡◌, ◌∙◌, List, ap}
use Rattle.std.specs.Prelude.{Option, None, Some, Result, String}
use Rattle.std.specs.Global.{Global}
use Rattle.papergrid_script.specs.Arguments.{said_by}
use Rattle.papergrid_script.proofs.ArgumentLemmas.{said-refused}
use Rattle.papergrid_script.specs.declared.program.arguments.Unexpected.{Unexpected}
use Rattle.papergrid_table.specs.Arguments.{IsMisuseOf, WordsSaid, if_said, next_said}
use Rattle.papergrid_table.specs.declared.arguments.Misuse.{Misuse}
use Rattle.papergrid_table.specs.declared.arguments.Misuse.TheVariants as misuses

pub asked-refused : (all step : Result WordsSaid (Option Unexpected)) (words : List (String Global)) (misuse : Misuse) → all ≡ said_by next_said step words → IsMisuseOf step misuse → IsMisuseOf (if_said all) misuse
asked-refused all step words misuses.Memory is refused = tt
asked-refused all step words (misuses.Said text) is refused = ap if_said (is ∙ ap (λ said. said_by next_said said words) refused ∙ said-refused next_said words None)
asked-refused all step words (misuses.Unexpected word) is refused = ap if_said (is ∙ ap (λ said. said_by next_said said words) refused ∙ said-refused next_said words (Some word))
