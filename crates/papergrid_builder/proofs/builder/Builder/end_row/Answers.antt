use Rattle.std.proofs.Common.{◌≡◌, ◌∙◌, ◌++◌, ◌∷◌, [], None, false, ap, append-nil, arith, length, refl, sym, subst}
use Rattle.std.specs.Prelude.{option_map}
use Rattle.papergrid_builder.specs.ForProofs.Kept.{found_of}
use Rattle.papergrid_builder.specs.BuilderStates.{BuilderState, with_row_end}
use Rattle.papergrid_builder.specs.ForProofs.Texts.{AreStarts, rows_told}
use Rattle.papergrid_builder.proofs.TextLemmas.{rows-more, starts-more}
use Rattle.papergrid_builder.proofs.builder.Builder.end_row.Goals as goal

pub invariant_of-self-2 : goal.invariant_of-self-2
invariant_of-self-2 c =
    let count = length c.self.inside.cells in
    let starts = c.self.inside.starts.items in
    record {
      in_range = c.self.invariant.in_range;
      within = subst (AreStarts count) (sym (c.in_ok-push.ensures.items ∙ ap (λ n. starts ++ n ∷ []) c.len.ensures))
          (starts-more count count starts (omega arith) c.self.invariant.within);
      current = tt;
    }

pub returns-clause-ok : goal.returns-clause-ok
returns-clause-ok c =
    let cells = c.self.inside.cells in
    let starts = c.self.inside.starts.items in
    let rows : rows_told cells c.push.new.self.items ≡ rows_told cells starts ++ [] ∷ [] =
    ap (rows_told cells) (c.in_ok-push.ensures.items ∙ ap (λ n. starts ++ n ∷ []) c.len.ensures)
    ∙ ap (λ cs. rows_told cs (starts ++ length cells ∷ [])) (sym (append-nil cells)) ∙ rows-more cells [] starts c.self.invariant.within in
    let told : BuilderState = record {
      settings = c.self.inside.settings.items;
      rows = rows_told cells starts;
      goes_on = c.self.inside.goes_on;
      found = option_map found_of c.self.inside.found;
      picture = c.self.inside.picture.items;
    } in
    (λ i. record { settings = told.settings; rows = rows i; goes_on = told.goes_on; found = None; picture = told.picture })
    ∙ sym (one-more told c.if-self.false) ∙ ap with_row_end c.self.view_is
  where
    one-more : (told : BuilderState) → told.goes_on ≡ false → with_row_end told ≡ record told { rows = told.rows ++ [] ∷ []; found = None }
    one-more told is = rw is refl
