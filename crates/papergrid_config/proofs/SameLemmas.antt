-- What is equal is the same, where that holds of each value.
use Rattle.std.proofs.Common.{◌≡◌, Bool, true, false, List, [], ◌∷◌, Option, Some, None, refl, ap, subst, arith}
use Rattle.std.specs.Cmp.{nat_cmp_total}
use Rattle.std.specs.Cmp.Lexicographic.{bytes_decides}
use Rattle.std.specs.FinMap.{FinMap, get, nat_cmp-IsAntisymmetric, same_map}
use Rattle.std.specs.Option.{option_eq}
use Rattle.std.proofs.Math.Bool.{beq}
use Rattle.std.proofs.lemmas.Bool.{and_from, and_parts, eqb-true}
use Rattle.papergrid_values.specs.Borders.{frame_parts}
use Rattle.papergrid_values.specs.Lines.{horizontal_parts, vertical_parts}
use Rattle.papergrid_values.specs.declared.alignment.AlignmentHorizontal.TheVariants as horizontal
use Rattle.papergrid_values.specs.declared.alignment.AlignmentVertical.TheVariants as vertical
use Rattle.papergrid_values.specs.declared.borders.Borders.{Borders}
use Rattle.papergrid_values.specs.declared.horizontal_line.HorizontalLine.{HorizontalLine}
use Rattle.papergrid_values.specs.declared.offset.Offset.TheVariants.{Start, End}
use Rattle.papergrid_values.specs.declared.vertical_line.VerticalLine.{VerticalLine}
use Rattle.papergrid_values.specs.contracts.alignment.AlignmentHorizontalPartialEq.TheImpl as alignment_horizontal
use Rattle.papergrid_values.specs.contracts.alignment.AlignmentVerticalPartialEq.TheImpl as alignment_vertical
use Rattle.papergrid_values.specs.contracts.ansi_buf.ANSIBufPartialEq.TheImpl as color
use Rattle.papergrid_values.specs.contracts.indent.IndentPartialEq.TheImpl as indent
use Rattle.papergrid_values.specs.contracts.offset.OffsetPartialEq.TheImpl as offset
use Rattle.papergrid_values.proofs.KeyLemmas.{exact_positions, position_total}
use Rattle.papergrid_values.proofs.EqualLemmas.{numbers_agree, option_same, positions_agree}
use Rattle.papergrid_values.specs.MapKeys.{position_cmp}
use Rattle.papergrid_tables.specs.StoredBorders.{StoredBorders}
use Rattle.papergrid_tables.specs.BorderSame.{same_parts}
use Rattle.papergrid_tables.specs.ForProofs.BorderEq.{borders_eq}
use Rattle.papergrid_tables.specs.ForProofs.OffsetEq.{overrides_eq}
use Rattle.papergrid_tables.specs.Overrides.{StoredOffsets, override_at}
use Rattle.papergrid_tables.proofs.BorderAgree.{and_four, borders_agree}
use Rattle.papergrid_tables.proofs.OffsetEqual.{overrides_agree}
use Rattle.papergrid_maps.specs.StoredSame.{HoldTheSameSpans}
use Rattle.papergrid_maps.specs.MapEq.{stored_eq}
use Rattle.papergrid_maps.specs.StoredMap.{Stored, held_for}
use Rattle.papergrid_maps.specs.ForProofs.SpanEq.{spans_eq}
use Rattle.papergrid_maps.specs.Spans.{Spans, spans_along}
use Rattle.papergrid_maps.proofs.StoredAgree.{maps_agree, spans_agree}
use Rattle.papergrid_values.specs.declared.direction.Direction.TheVariants.{Columns, Rows}
use Rattle.papergrid_config.proofs.EqualLemmas.{optional_eq, sides_eq}

-- whether equal values are the same
abbrev pub IsExact : {T : Type 0} → (T → T → Bool) → Type 0
IsExact {T} eq = (x y : T) → eq x y ≡ true → x ≡ y

-- ---- values

pub exact_indent : IsExact indent.ghosts.eq
exact_indent x y h = let a = and_parts _ _ h in λ i. record { fill = eqb-true x.fill y.fill a.0 i; size = eqb-true x.size y.size a.1 i }

pub exact_bool : IsExact beq
exact_bool true true h = refl
exact_bool false false h = refl
exact_bool x y h = cc

pub exact_horizontal : IsExact alignment_horizontal.ghosts.eq
exact_horizontal horizontal.Left horizontal.Left h = refl
exact_horizontal horizontal.Center horizontal.Center h = refl
exact_horizontal horizontal.Right horizontal.Right h = refl
exact_horizontal x y h = cc

pub exact_vertical : IsExact alignment_vertical.ghosts.eq
exact_vertical vertical.Top vertical.Top h = refl
exact_vertical vertical.Center vertical.Center h = refl
exact_vertical vertical.Bottom vertical.Bottom h = refl
exact_vertical x y h = cc

pub exact_offset : IsExact offset.ghosts.eq
exact_offset (Start m) (Start n) h = ap Start (eqb-true m n h)
exact_offset (End m) (End n) h = ap End (eqb-true m n h)
exact_offset x y h = cc

pub exact_color : IsExact color.ghosts.eq
exact_color x y h = let a = and_parts _ _ h in λ i. ((bytes_decides x.0 y.0).0 a.0 i, (bytes_decides x.1 y.1).0 a.1 i)

-- ---- what is stored of values

module _ {T : Type 0} (eq : T → T → Bool) (exact : IsExact eq) where
  pub exact_option : IsExact (option_eq eq)
  exact_option None None h = refl
  exact_option (Some x) (Some y) h = ap Some (exact x y h)
  exact_option x y h = cc

pub exact_optional : IsExact optional_eq
exact_optional None None h = refl
exact_optional (Some x) (Some y) h = ap Some (exact_color x y h)
exact_optional x y h = cc

module _ {T : Type 0} (eq : T → T → Bool) (exact : IsExact eq) where
  pub exact_sides : IsExact (sides_eq eq)
  exact_sides x y h = grind arith

  pub exact_map : IsExact (stored_eq eq)
  exact_map m n h =
      let parts = and_four h in
      λ i. record {
        global = exact m.global n.global parts.0 i;
        columns = same_map nat_cmp_total nat_cmp-IsAntisymmetric m.columns n.columns (λ k. exact_option eq exact (get m.columns k) (get n.columns k) ((numbers_agree eq m.columns n.columns).0 parts.1 k)) i;
        rows = same_map nat_cmp_total nat_cmp-IsAntisymmetric m.rows n.rows (λ k. exact_option eq exact (get m.rows k) (get n.rows k) ((numbers_agree eq m.rows n.rows).0 parts.2 k)) i;
        cells = same_map position_total exact_positions m.cells n.cells (λ p. exact_option eq exact (get m.cells p) (get n.cells p) ((positions_agree eq m.cells n.cells).0 parts.3 p)) i;
      }

  exact_parts : IsExact (same_parts eq)
  exact_parts [] [] h = refl
  exact_parts (x ∷ xs) (y ∷ ys) h =
      let a = and_parts _ _ h in
      λ i. exact_option eq exact x y a.0 i ∷ exact_parts xs ys a.1 i
  exact_parts xs ys h = cc

  frame_is : (f g : Borders T) → frame_parts f ≡ frame_parts g → f ≡ g
  frame_is f g is = grind arith

  exact_horizontal_line : IsExact (λ (l m : HorizontalLine T). same_parts eq (horizontal_parts l) (horizontal_parts m))
  exact_horizontal_line l m h = grind arith

  exact_vertical_line : IsExact (λ (l m : VerticalLine T). same_parts eq (vertical_parts l) (vertical_parts m))
  exact_vertical_line l m h = grind arith

  pub exact_borders : IsExact (borders_eq eq)
  exact_borders s t h =
      let same = (borders_agree eq s t).0 h in
      λ i. record {
        global = exact_option eq exact s.global t.global same.global i;
        frame = frame_is s.frame t.frame (exact_parts (frame_parts s.frame) (frame_parts t.frame) same.frame) i;
        horizontal_lines = same_map nat_cmp_total nat_cmp-IsAntisymmetric s.horizontal_lines t.horizontal_lines (λ n. exact_option _ exact_horizontal_line _ _ (same.horizontal_line n)) i;
        vertical_lines = same_map nat_cmp_total nat_cmp-IsAntisymmetric s.vertical_lines t.vertical_lines (λ n. exact_option _ exact_vertical_line _ _ (same.vertical_line n)) i;
        horizontal_edges = same_map position_total exact_positions s.horizontal_edges t.horizontal_edges (λ p. exact_option eq exact _ _ (same.horizontal_edge p)) i;
        vertical_edges = same_map position_total exact_positions s.vertical_edges t.vertical_edges (λ p. exact_option eq exact _ _ (same.vertical_edge p)) i;
        corners = same_map position_total exact_positions s.corners t.corners (λ p. exact_option eq exact _ _ (same.corner p)) i;
      }

pub spans_are : (s t : Spans) → HoldTheSameSpans s t → s ≡ t
spans_are s t same = λ i. record {
  columns = same_map position_total exact_positions s.columns t.columns (same Columns) i;
  rows = same_map position_total exact_positions s.rows t.rows (same Rows) i;
}

module _ {T : Type 0} (eq : T → T → Bool) (exact : IsExact eq) where
  pub exact_overrides : (s t : FinMap position_cmp (StoredOffsets T)) → overrides_eq eq s t ≡ true → override_at s ≡ override_at t
  exact_overrides s t h = λ i p o. exact_option eq exact (override_at s p o) (override_at t p o) ((overrides_agree eq s t).0 h p o) i

-- ---- each equals what is the same

pub equal_at : {A : Type 0} (eq : A → A → Bool) → ((v : A) → eq v v ≡ true) → {x y : A} → x ≡ y → eq x y ≡ true
equal_at eq itself {x = x} is = subst (λ v. eq x v ≡ true) is (itself x)

pub equal_spans : {s t : Spans} → s ≡ t → spans_eq s t ≡ true
equal_spans {s = s} {t = t} is = (spans_agree s t).1 (λ d p. ap (λ spans. get (spans_along d spans) p) is)

module _ {T : Type 0} (eq : T → T → Bool) (itself : (v : T) → eq v v ≡ true) where
  pub equal_maps : {m n : Stored T} → m ≡ n → stored_eq eq m n ≡ true
  equal_maps is = equal_at (stored_eq eq) (λ m. (maps_agree eq m m).1 (λ entity. option_same eq itself (held_for m entity))) is

  parts_itself : (xs : List (Option T)) → same_parts eq xs xs ≡ true
  parts_itself [] = refl
  parts_itself (x ∷ xs) = and_from _ _ (option_same eq itself x) (parts_itself xs)

  line_itself : {L : Type 0} (parts : L → List (Option T)) (line : Option L) → option_eq (λ l m. same_parts eq (parts l) (parts m)) line line ≡ true
  line_itself parts None = refl
  line_itself parts (Some line) = parts_itself (parts line)

  borders_itself : (s : StoredBorders T) → borders_eq eq s s ≡ true
  borders_itself s = (borders_agree eq s s).1 (record {
    global = option_same eq itself s.global;
    frame = parts_itself (frame_parts s.frame);
    horizontal_line = λ n. line_itself horizontal_parts (get s.horizontal_lines n);
    vertical_line = λ n. line_itself vertical_parts (get s.vertical_lines n);
    horizontal_edge = λ p. option_same eq itself (get s.horizontal_edges p);
    vertical_edge = λ p. option_same eq itself (get s.vertical_edges p);
    corner = λ p. option_same eq itself (get s.corners p);
  })

  pub equal_borders : {s t : StoredBorders T} → s ≡ t → borders_eq eq s t ≡ true
  equal_borders is = equal_at (borders_eq eq) borders_itself is

  pub equal_overrides : (s t : FinMap position_cmp (StoredOffsets T)) → override_at s ≡ override_at t → overrides_eq eq s t ≡ true
  equal_overrides s t same = (overrides_agree eq s t).1 (λ p o. equal_at (option_eq eq) (option_same eq itself) (ap (λ stored. stored p o) same))
