use Rattle.std.proofs.Common.{◌≡◌, drop, map}
use Rattle.std.specs.List.{list_any}
use Rattle.std.specs.Str.{bytes_eq}
use Rattle.papergrid_csv.proofs.judging.has_field.Given as goal

abbrev pub invariant-loop-field : goal.invariant-loop-field
invariant-loop-field l =
    list_any (λ field. bytes_eq field l.text) (map (λ field. field.now) (drop l.field-index l.row))
    ≡ list_any (λ field. bytes_eq field l.text) (map (λ field. field.now) l.row)
