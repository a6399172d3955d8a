use Rattle.std.proofs.Common.{◌≡◌, drop, map}
use Rattle.std.specs.Prelude.{bytes_eq}
use Rattle.std.specs.List.{find}
use Rattle.papergrid_table.specs.Options.{Known, known, option_named}
use Rattle.papergrid_table.proofs.options.option_named.Given as goal

abbrev pub invariant-loop-option : goal.invariant-loop-option
invariant-loop-option l =
    option_named l.name ≡ find (λ (option : Known). bytes_eq option.name l.name) (map known (drop l.option-index l.option-items))
