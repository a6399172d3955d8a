-- When two span tables hold the same.
use Rattle.std.specs.Prelude.{Bool, ◌&&◌, nat_eq}
use Rattle.std.specs.Cmp.{IsPartialEquivalence, and_per, nat_eq_equiv, on_per, partial_equiv_from_equiv}
use Rattle.papergrid_values.specs.Equal.{positions_eq}
use Rattle.papergrid_values.specs.ForProofs.EqualLaws.{positions_laws}
use Rattle.papergrid_maps.specs.Spans.{Spans}

-- whether two sets of spans hold the same
abbrev pub spans_eq : Spans → Spans → Bool
spans_eq s t = positions_eq nat_eq s.columns t.columns && positions_eq nat_eq s.rows t.rows

pub spans_eq_laws : IsPartialEquivalence spans_eq
spans_eq_laws =
    let laws = positions_laws nat_eq (partial_equiv_from_equiv nat_eq_equiv) in
    and_per (on_per (λ (s : Spans). s.columns) laws) (on_per (λ (s : Spans). s.rows) laws)
