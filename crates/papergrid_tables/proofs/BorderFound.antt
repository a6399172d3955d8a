-- What is found in a border table, and which lines it has, by the entries of its maps.
use Rattle.std.proofs.Common.{◌≡◌, ℕ, Bor, Bool, true, false, ◌&&◌, List, [], length, eqb, Option, Some, None, refl, sym, ap, ◌∙◌, arith}
use Rattle.std.specs.Prelude.{◌↔◌, IsFalse, IsTrue, IsSome, is_some, is_none, not}
use Rattle.std.specs.Option.{option_or, option_copied}
use Rattle.std.specs.List.{list_any, IsDistinct}
use Rattle.std.specs.Cmp.{nat_eq_equiv}
use Rattle.std.specs.Map.{lookup, keys_of}
use Rattle.std.specs.Ordering.{nat_cmp}
use Rattle.std.specs.FinMap.{get, from_entries}
use Rattle.std.proofs.lemmas.Bool.{false≢true, and_parts, and_from, eqb-true}
use Rattle.papergrid_values.specs.Borders.{frame_parts, frame_with}
use Rattle.papergrid_values.specs.Parts.{none_set}
use Rattle.papergrid_values.specs.declared.position.Position.{Position}
use Rattle.papergrid_values.specs.declared.borders.Borders.{Borders}
use Rattle.papergrid_values.specs.declared.horizontal_line.HorizontalLine.{HorizontalLine}
use Rattle.papergrid_values.specs.declared.vertical_line.VerticalLine.{VerticalLine}
use Rattle.papergrid_tables.specs.StoredBorders.{HasBorderHistory, parts_of_borders}
use Rattle.papergrid_tables.specs.BorderScan.{has_end}
use Rattle.papergrid_values.specs.MapKeys.{position_eq}
use Rattle.papergrid_tables.specs.ForProofs.LineTested.{has_end_is}
use Rattle.papergrid_tables.specs.BorderParts.{HasEnd, HasNoCellParts, BorderParts}
use Rattle.papergrid_values.proofs.AnyLemmas.{any_found, any_from_found}
use Rattle.papergrid_tables.proofs.BorderHistory.{table_of}
use Rattle.papergrid_values.proofs.KeyLemmas.{get_at_number, get_at_position, position_equiv}
use Rattle.papergrid_values.proofs.EntryLemmas.{no_entries, none_of_nothing}

-- ---- the first that is set

module _ {T : Type 0} where
  copied_or : (a b : Option (Bor T)) → option_copied (option_or a b) ≡ option_or (option_copied a) (option_copied b)
  copied_or None b = refl
  copied_or (Some x) b = refl

  pub or_assoc : (a b c : Option T) → option_or (option_or a b) c ≡ option_or a (option_or b c)
  or_assoc None b c = refl
  or_assoc (Some x) b c = refl

  pub both : (a b : Option (Bor T)) {r : Option (Bor T)} {A B : Option T} → r ≡ option_or a b → option_copied a ≡ A → option_copied b ≡ B → option_copied r ≡ option_or A B
  both a b is first second = ap option_copied is ∙ copied_or a b ∙ (λ i. option_or (first i) (second i))

  pub first_of_four : (a b c d : Option (Bor T)) {r s t : Option (Bor T)} {A B C D : Option T} → r ≡ option_or a b → s ≡ option_or r c → t ≡ option_or s d
      → option_copied a ≡ A → option_copied b ≡ B → option_copied c ≡ C → option_copied d ≡ D → option_copied t ≡ option_or A (option_or B (option_or C D))
  first_of_four a b c d {r} {s} {A = A} {B = B} {C = C} {D = D} one two three first second third fourth =
      both s d three (both r c two (both a b one first second) third) fourth ∙ or_assoc (option_or A B) C D ∙ or_assoc A B (option_or C D)

  pub first_of_five : (a b c d e : Option (Bor T)) {r s t u : Option (Bor T)} {A B C D E : Option T} → r ≡ option_or a b → s ≡ option_or r c → t ≡ option_or s d → u ≡ option_or t e
      → option_copied a ≡ A → option_copied b ≡ B → option_copied c ≡ C → option_copied d ≡ D → option_copied e ≡ E → option_copied u ≡ option_or A (option_or B (option_or C (option_or D E)))
  first_of_five a b c d e {r} {s} {t} {A = A} {B = B} {C = C} {D = D} {E = E} one two three four first second third fourth fifth =
      both t e four (first_of_four a b c d one two three first second third fourth) fifth
      ∙ or_assoc A (option_or B (option_or C D)) E ∙ ap (option_or A) (or_assoc B (option_or C D) E) ∙ ap (λ o. option_or A (option_or B o)) (or_assoc C D E)

-- ---- scans

-- an end of a line
pub ends_scan : {L T : Type 0} (first end : L → Option T) (index count : ℕ) (es : List (ℕ × L)) (b : Bool) → b ≡ list_any (λ e. has_end index count (first e.1) (end e.1)) es → IsDistinct eqb (keys_of es)
    → IsTrue b ↔ ((n : ℕ) × (line : L) × (get (from_entries {R = nat_cmp} es) n ≡ Some line) × HasEnd index count (first line) (end line))
ends_scan first end index count es b is distinct =
    let test = λ (e : ℕ × _). has_end index count (first e.1) (end e.1) in (
      (λ h. let found = any_found nat_eq_equiv test es distinct (sym is ∙ h) in (found.0, found.1, get_at_number es found.0 ∙ found.2, (has_end_is index count _ _).0 found.3)),
      (λ h. is ∙ any_from_found nat_eq_equiv test es eqb-true h.0 h.1 (sym (get_at_number es h.0) ∙ h.2) ((has_end_is index count _ _).1 h.3)),
    )

pub key_scan : {L : Type 0} (es : List (ℕ × L)) (n : ℕ) (b : Bool) → b ≡ is_some (lookup (eqb n) es) → IsTrue b ↔ IsSome (get (from_entries {R = nat_cmp} es) n)
key_scan es n b is = ((λ h. ap is_some (get_at_number es n) ∙ sym is ∙ h), (λ h. is ∙ ap is_some (sym (get_at_number es n)) ∙ h))

-- ---- a table that holds nothing

none_is : {A : Type 0} (o : Option A) → is_none o ≡ true → o ≡ None
none_is None h = refl
none_is (Some x) h = absurd (false≢true h)

-- a frame that has no part set is the one without parts
bare_frame : {T : Type 0} (f : Borders T) → none_set (frame_parts f) ≡ true → f ≡ frame_with None
bare_frame f none = grind (arith, and_parts, none_is)

pub unset : {A : Type 0} (o : Option A) (b : Bool) → is_some o ≡ not b → b ≡ is_none o
unset None true h = refl
unset None false h = absurd (false≢true h)
unset (Some x) true h = absurd (false≢true (sym h))
unset (Some x) false h = refl

pub bare : {T : Type 0} (g : Option T) (f : Borders T) (hl : List (ℕ × HorizontalLine T)) (vl : List (ℕ × VerticalLine T)) (he ve ks : List (Position × T)) (a b c d e h k : Bool)
    → a ≡ is_none g → b ≡ none_set (frame_parts f) → (IsTrue c ↔ (length hl ≡ 0)) → (IsTrue d ↔ (length vl ≡ 0))
    → (IsTrue e ↔ (length he ≡ 0)) → (IsTrue h ↔ (length ve ≡ 0)) → (IsTrue k ↔ (length ks ≡ 0))
    → IsTrue (a && (b && ((c && d) && (e && (h && k))))) ↔ HasBorderHistory [] (table_of g f hl vl he ve ks)
bare {T} g f hl vl he ve ks a b c d e h k global frame horizontal_lines vertical_lines horizontal_edges vertical_edges corners = (
  (λ all.
      let one = and_parts a _ all in
      let two = and_parts b _ one.1 in
      let three = and_parts (c && d) _ two.1 in
      let lines = and_parts c d three.0 in
      let edges = and_parts e _ three.1 in
      let last = and_parts h k edges.1 in
      λ i. record {
        global = none_is g (sym global ∙ one.0) i;
        frame = bare_frame f (sym frame ∙ two.0) i;
        horizontal_line = λ n. (get_at_number hl n ∙ none_of_nothing eqb hl (horizontal_lines.0 lines.0) n) i;
        vertical_line = λ n. (get_at_number vl n ∙ none_of_nothing eqb vl (vertical_lines.0 lines.1) n) i;
        horizontal_edge = λ p. (get_at_position he p ∙ none_of_nothing position_eq he (horizontal_edges.0 edges.0) p) i;
        vertical_edge = λ p. (get_at_position ve p ∙ none_of_nothing position_eq ve (vertical_edges.0 last.0) p) i;
        corner = λ p. (get_at_position ks p ∙ none_of_nothing position_eq ks (corners.0 last.1) p) i;
      }),
  (λ none.
      and_from _ _ (global ∙ ap (λ (s : BorderParts T). is_none s.global) none) (and_from _ _ (frame ∙ ap (λ (s : BorderParts T). none_set (frame_parts s.frame)) none)
      (and_from _ _ (and_from _ _ (horizontal_lines.1 (no_entries eqb nat_eq_equiv hl (λ n. sym (get_at_number hl n) ∙ ap (λ (s : BorderParts T). s.horizontal_line n) none)))
      (vertical_lines.1 (no_entries eqb nat_eq_equiv vl (λ n. sym (get_at_number vl n) ∙ ap (λ (s : BorderParts T). s.vertical_line n) none))))
      (and_from _ _ (horizontal_edges.1 (no_entries position_eq position_equiv he (λ p. sym (get_at_position he p) ∙ ap (λ (s : BorderParts T). s.horizontal_edge p) none)))
      (and_from _ _ (vertical_edges.1 (no_entries position_eq position_equiv ve (λ p. sym (get_at_position ve p) ∙ ap (λ (s : BorderParts T). s.vertical_edge p) none)))
      (corners.1 (no_entries position_eq position_equiv ks (λ p. sym (get_at_position ks p) ∙ ap (λ (s : BorderParts T). s.corner p) none)))))))),
)

-- ---- a table without edges and corners of cells

turned : (b : Bool) → IsFalse (not b) → IsTrue b
turned true h = refl
turned false h = absurd (false≢true (sym h))

pub without_cells : {T : Type 0} (g : Option T) (f : Borders T) (hl : List (ℕ × HorizontalLine T)) (vl : List (ℕ × VerticalLine T)) (he ve ks : List (Position × T)) (e h k : Bool)
    → (IsTrue e ↔ (length he ≡ 0)) → (IsTrue h ↔ (length ve ≡ 0)) → (IsTrue k ↔ (length ks ≡ 0))
    → IsFalse (not (e && (h && k))) ↔ HasNoCellParts (parts_of_borders (table_of g f hl vl he ve ks))
without_cells {T} g f hl vl he ve ks e h k horizontal_edges vertical_edges corners = (
  (λ none.
      let one = and_parts e _ (turned (e && (h && k)) none) in
      let two = and_parts h k one.1 in
      record {
        horizontal_edges = λ p. get_at_position he p ∙ none_of_nothing position_eq he (horizontal_edges.0 one.0) p;
        vertical_edges = λ p. get_at_position ve p ∙ none_of_nothing position_eq ve (vertical_edges.0 two.0) p;
        corners = λ p. get_at_position ks p ∙ none_of_nothing position_eq ks (corners.0 two.1) p;
      }),
  (λ none. ap not
      (and_from _ _ (horizontal_edges.1 (no_entries position_eq position_equiv he (λ p. sym (get_at_position he p) ∙ none.horizontal_edges p)))
      (and_from _ _ (vertical_edges.1 (no_entries position_eq position_equiv ve (λ p. sym (get_at_position ve p) ∙ none.vertical_edges p)))
      (corners.1 (no_entries position_eq position_equiv ks (λ p. sym (get_at_position ks p) ∙ none.corners p)))))),
)
