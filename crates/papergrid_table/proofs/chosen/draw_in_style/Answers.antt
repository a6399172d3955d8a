use Rattle.std.proofs.Common.{◌≡◌, refl, subst, sym, true}
use Rattle.std.specs.List.{list_all}
use Rattle.papergrid_text.specs.Separators.{is_separator}
use Rattle.papergrid_values.specs.Keys.{sides_parts}
use Rattle.papergrid_csv.specs.Requests.{fitting_characters}
use Rattle.papergrid_table.proofs.chosen.draw_in_style.Goals as goal
use Rattle.papergrid_table.proofs.chosen.draw_in_style.Goals.{then-fits+in_ok-junctions_of, else-fits}

pub returns-clause-separators : goal.returns-clause-separators
returns-clause-separators c = record {
  frame = c.frame-request.ensures.separators;
  head = c.head-request.ensures.separators;
  padding = subst (λ sides. list_all (λ indent. is_separator indent.fill) (sides_parts sides) ≡ true) (sym c.padding-request.ensures) refl;
  fitting = elim c.if-fits.branch [
    | then-fits+in_ok-junctions_of w ↦ subst (λ junctions. list_all is_separator (fitting_characters junctions) ≡ true) (sym w.request-is) w.in_ok-junctions_of.ensures.separators
    | else-fits w ↦ subst (λ junctions. list_all is_separator (fitting_characters junctions) ≡ true) (sym w.request-is) refl
  ];
}
