use Rattle.std.proofs.Common.{◌∙◌, ap}
use Rattle.std.specs.Prelude.{◌==◌}
use Rattle.std.specs.List.{list_any}
use Rattle.papergrid_csv.proofs.EscapeLemmas.{means-itself}
use Rattle.papergrid_csv.proofs.spelling.may_escape.Goals as goal

pub returns-in-Tsv : goal.returns-in-Tsv
returns-in-Tsv c =
    means-itself c.args.format c.args.field.now c.contains.result c.utf8.field c.in-Tsv.is
    (c.contains.ensures.value ∙ ap (list_any (λ b. b == 0x5C)) c.as_bytes.ensures.value)
