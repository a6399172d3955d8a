-- Tables with the same history of calls are equal.
use Rattle.std.proofs.Common.{◌≡◌, ◌∙◌, sym, ap, refl, Bool, true, List, [], ◌∷◌, Option, Some, None, arith}
use Rattle.std.specs.FinMap.{FinMap, get}
use Rattle.std.specs.Option.{option_eq}
use Rattle.std.proofs.lemmas.Bool.{and_from}
use Rattle.papergrid_values.specs.Borders.{frame_parts}
use Rattle.papergrid_values.specs.Lines.{horizontal_parts, vertical_parts}
use Rattle.papergrid_tables.specs.BorderCalls.{BorderCall}
use Rattle.papergrid_tables.specs.ForProofs.BorderEq.{borders_eq, horizontal_line_eq, parts_eq, vertical_line_eq}
use Rattle.papergrid_tables.specs.StoredBorders as borders
use Rattle.papergrid_tables.specs.StoredBorders.{StoredBorders}
use Rattle.papergrid_values.specs.MapKeys.{position_cmp}
use Rattle.papergrid_tables.specs.ForProofs.OffsetEq.{overrides_eq}
use Rattle.papergrid_tables.specs.Overrides as overrides
use Rattle.papergrid_tables.specs.Overrides.{StoredOffsets, OffsetCall}
use Rattle.papergrid_values.proofs.EqualLemmas.{numbers_agree, option_same, positions_same}
use Rattle.papergrid_tables.proofs.MadeTables.{border_history}
use Rattle.papergrid_tables.proofs.OffsetEqual.{overrides_agree}

module _ {X : Type 0} (eq : X → X → Bool) (same : (x : X) → eq x x ≡ true) where
  parts_same : (parts : List (Option X)) → parts_eq eq parts parts ≡ true
  parts_same [] = refl
  parts_same (part ∷ parts) = and_from _ _ (option_same eq same part) (parts_same parts)

  borders_same : (s : StoredBorders X) → borders_eq eq s s ≡ true
  borders_same s =
      and_from _ _ (option_same eq same s.global)
      (and_from _ _ (parts_same (frame_parts s.frame))
      (and_from _ _ ((numbers_agree (horizontal_line_eq eq) s.horizontal_lines s.horizontal_lines).1 (λ n. lines_same horizontal_parts (get s.horizontal_lines n)))
      (and_from _ _ ((numbers_agree (vertical_line_eq eq) s.vertical_lines s.vertical_lines).1 (λ n. lines_same vertical_parts (get s.vertical_lines n)))
      (and_from _ _ (positions_same eq same s.horizontal_edges) (and_from _ _ (positions_same eq same s.vertical_edges) (positions_same eq same s.corners))))))
    where
      lines_same : {L : Type 0} (parts : L → List (Option X)) (line : Option L) → option_eq (λ l m. parts_eq eq (parts l) (parts m)) line line ≡ true
      lines_same parts None = refl
      lines_same parts (Some line) = parts_same (parts line)

  pub border_histories_equal : (calls : List (BorderCall X)) (s t : StoredBorders X) → borders.HasBorderHistory calls s → borders.HasBorderHistory calls t → borders_eq eq s t ≡ true
  border_histories_equal calls s t history_s history_t =
      ap (borders_eq eq s) (border_history calls t history_t ∙ sym (border_history calls s history_s)) ∙ borders_same s

  pub override_histories_equal : (calls : List (OffsetCall X)) (s t : FinMap position_cmp (StoredOffsets X)) → overrides.HasOverrideHistory calls s → overrides.HasOverrideHistory calls t → overrides_eq eq s t ≡ true
  override_histories_equal calls s t history_s history_t = grind (arith, overrides_agree, option_same)
