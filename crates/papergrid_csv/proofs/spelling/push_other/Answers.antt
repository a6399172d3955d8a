use Rattle.std.proofs.Common.{◌∙◌, ◌++◌, Some, ap, false, refl, sym}
use Rattle.std.specs.Prelude.{codes}
use Rattle.std.specs.Fmt.{digits}
use Rattle.std.proofs.lemmas.Fmt.{hex_byte}
use Rattle.papergrid_csv.specs.Spelling.{two_digits}
use Rattle.papergrid_csv.proofs.SpellingLemmas.{appended, control-small, control-spelled, other-spelled, plain-spelled, pushed}
use Rattle.papergrid_csv.proofs.spelling.push_other.Goals as goal

pub returns : goal.returns
returns c =
    pushed c.push.result _ _ _ _ c.push.ensures.bytes
    (plain-spelled c.args.c (sym c.if-is_ascii_control.false ∙ c.is_ascii_control.ensures) (sym c.if-is_other_control.false ∙ c.is_other_control.ensures))

pub returns-then-is_ascii_control : goal.returns-then-is_ascii_control
returns-then-is_ascii_control c =
    let is = sym c.if-is_ascii_control.true ∙ c.is_ascii_control.ensures in
    let small = control-small c.args.c is in
    appended c.write.result _ _ (codes "\\x" ++ two_digits c.args.c) _ _ c.write.ensures.bytes
    (rw (c.laid_out.ensures, c.in_radix.ensures) (ap (λ t. Some (codes "\\x" ++ t)) (hex_byte false c.args.c small)))
    (control-spelled c.args.c is)

pub returns-then-is_other_control : goal.returns-then-is_other_control
returns-then-is_other_control c =
    appended c.write-then-is_other_control.result _ _ (codes "\\u{" ++ (digits 16 false c.args.c ++ codes "}")) _ _ c.write-then-is_other_control.ensures.bytes
    (rw c.in_radix-then-is_other_control.ensures refl)
    (other-spelled c.args.c (sym c.if-is_ascii_control.false ∙ c.is_ascii_control.ensures) (sym c.if-is_other_control.true ∙ c.is_other_control.ensures))
