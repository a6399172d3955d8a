-- What holds of each value that settings set holds of each that their configuration finds.
use Rattle.std.proofs.Common.{◌≡◌, sym, subst, refl, ℕ, ◌-◌, ◌==◌, ◌&&◌, Bool, true, false, not, List, [], ◌∷◌, Option, Some, None, unwrap_or, arith}
use Rattle.std.specs.Prelude.{All, IfSome, if◌then◌else◌, is_none, is_some, nat_lt, option_and_then, reverse}
use Rattle.std.specs.List.{flat_map, list_all}
use Rattle.std.specs.Option.{option_or}
use Rattle.std.proofs.lemmas.Bool.{and_parts}
use Rattle.std.proofs.lemmas.List.Elements.{All-append, All-cons, All-head, All-nil, All-tail}
use Rattle.papergrid_values.specs.Borders.{border_parts, frame_parts}
use Rattle.papergrid_values.specs.Keys.{sides_parts}
use Rattle.papergrid_values.specs.Lines.{horizontal_parts, vertical_parts}
use Rattle.papergrid_values.specs.MapKeys.{position_eq}
use Rattle.papergrid_values.specs.declared.direction.Direction.TheVariants.{Columns, Rows}
use Rattle.papergrid_values.specs.declared.entity.Entity.{Entity}
use Rattle.papergrid_values.specs.declared.entity.Entity.TheVariants.{Cell, Column, Global, Row}
use Rattle.papergrid_values.specs.declared.horizontal_line.HorizontalLine.{HorizontalLine}
use Rattle.papergrid_values.specs.declared.indent.Indent.{Indent}
use Rattle.papergrid_values.specs.declared.offset.Offset.{Offset}
use Rattle.papergrid_values.specs.declared.offset.Offset.TheVariants.{End, Start}
use Rattle.papergrid_values.specs.declared.position.Position.{Position}
use Rattle.papergrid_values.specs.declared.sides.Sides.{Sides}
use Rattle.papergrid_values.specs.declared.vertical_line.VerticalLine.{VerticalLine}
use Rattle.papergrid_tables.specs.BorderCalls as lines
use Rattle.papergrid_tables.specs.BorderCalls.{BorderCall, at_position, below, corner_part, edge_part, is_corner_of, is_edge_of, right_of}
use Rattle.papergrid_tables.specs.BorderParts.{BorderParts, crossing_part, found_horizontal, found_intersection, found_vertical, frame_horizontal, frame_vertical, no_parts, of_frame, of_horizontal_line, of_vertical_line, only_if, parts_after_call, parts_from}
use Rattle.papergrid_tables.specs.Overrides as overrides
use Rattle.papergrid_tables.specs.Overrides.{OffsetCall, found_override, is_same_offset, override_at, overrides_from}
use Rattle.papergrid_tables.specs.StoredBorders.{parts_of_borders}
use Rattle.papergrid_values.specs.Compact.{all_sides, spaces}
use Rattle.papergrid_maps.specs.Keys.{entity_eq}
use Rattle.papergrid_maps.proofs.MapSearch.{cell_override_value, global_value, standing_value}
use Rattle.papergrid_maps.proofs.EffectiveCallLemmas.{search_of_history}
use Rattle.papergrid_maps.specs.StoredMap.{HasMapHistory, Stored, stored_value}
use Rattle.papergrid_maps.specs.declared.entity_map.MapCall.{MapCall}
use Rattle.papergrid_maps.specs.declared.entity_map.MapCall.TheVariants.{Insert, Remove}
use Rattle.papergrid_text.specs.Separators.{IsSeparator, is_separator}
use Rattle.papergrid_text.proofs.SeparatorLemmas.{separates}
use Rattle.papergrid_config.specs.History.{HasSettingHistory, newest_or}
use Rattle.papergrid_config.specs.Parts.{character_calls, horizontal_char_calls, justification_calls, missing_characters, padding_calls, vertical_char_calls}
use Rattle.papergrid_config.specs.declared.setting.Setting.{Setting}
use Rattle.papergrid_config.specs.declared.setting.Setting.TheVariants.{InsertHorizontalLine, InsertVerticalLine, RemoveBorder, RemoveBorders, RemoveHorizontalChars, RemoveHorizontalLine, RemoveOverriddenHorizontal, RemoveOverriddenVertical, RemoveVerticalChars, RemoveVerticalLine, SetBorder, SetBorderDefault, SetBorders, SetBordersMissing, SetHorizontalChar, SetJustification, SetPadding, SetVerticalChar}
use Rattle.papergrid_draw.specs.Contents.{look_of}
use Rattle.papergrid_draw.specs.Drawings.{Drawing}
use Rattle.papergrid_draw.specs.Separated.{HasSeparators, fills_of, part_separates, setting_separates}
use Rattle.papergrid_draw.proofs.ContentLemmas.{All-reverse}

-- ---- lists

All-flat_map : {A B : Type 0} (P : A → Type 0) (R : B → Type 0) (f : A → List B) → ((a : A) → P a → All R (f a)) → (xs : List A) → All P xs → All R (flat_map f xs)
All-flat_map P R f each [] all = All-nil R
All-flat_map P R f each (x ∷ xs) all =
    All-append R (f x) (flat_map f xs) (each x (All-head P x xs all)) (All-flat_map P R f each xs (All-tail P x xs all))

All-one : {A : Type 0} (P : A → Type 0) (x : A) → P x → All P (x ∷ [])
All-one P x holds = All-cons P x [] holds (All-nil P)

all-five : {A : Type 0} (P : A → Type 0) (a b c d e : A) → P a → P b → P c → P d → P e → All P (a ∷ b ∷ c ∷ d ∷ e ∷ [])
all-five P a b c d e one two three four five =
    All-cons P a (b ∷ c ∷ d ∷ e ∷ []) one (All-cons P b (c ∷ d ∷ e ∷ []) two (All-cons P c (d ∷ e ∷ []) three
    (All-cons P d (e ∷ []) four (All-one P e five))))

All-tested : {A : Type 0} (P : A → Type 0) (test : A → Bool) → ((x : A) → test x ≡ true → P x) → (xs : List A) → list_all test xs ≡ true → All P xs
All-tested P test each [] passes = All-nil P
All-tested P test each (x ∷ xs) passes =
    let parts = and_parts (test x) (list_all test xs) passes in
    All-cons P x xs (each x parts.0) (All-tested P test each xs parts.1)

module _ {T : Type 0} (Q : T → Type 0) where
  -- ---- parts

  -- what is set has it
  abbrev pub Holds : Option T → Type 0
  Holds part = IfSome part Q

  or-holds : (a b : Option T) → Holds a → Holds b → Holds (option_or a b)
  or-holds None b first second = second
  or-holds (Some v) b first second = first

  if-holds : (test : Bool) (a b : Option T) → Holds a → Holds b → Holds (if test then a else b)
  if-holds true a b first second = first
  if-holds false a b first second = second

  unwrap-holds : (part : Option T) (other : T) → Holds part → Q other → Q (unwrap_or part other)
  unwrap-holds None other holds last = last
  unwrap-holds (Some v) other holds last = holds

  then-holds : {L : Type 0} (P : L → Type 0) (found : L → Option T) (line : Option L) → ((l : L) → P l → Holds (found l)) → IfSome line P →
      Holds (option_and_then found line)
  then-holds P found None each holds = tt
  then-holds P found (Some l) each holds = each l holds

  none-holds : (part : Option T) → is_none part ≡ true → Holds part
  none-holds None is = tt
  none-holds (Some v) is = cc

  -- ---- lines

  abbrev AllHold : List (Option T) → Type 0
  AllHold parts = All Holds parts

  pub record AreParts (parts : BorderParts T) : Type 0 where
    pub global : Holds parts.global
    pub frame : AllHold (frame_parts parts.frame)
    pub horizontal_line : (n : ℕ) → IfSome (parts.horizontal_line n) (λ line. AllHold (horizontal_parts line))
    pub vertical_line : (n : ℕ) → IfSome (parts.vertical_line n) (λ line. AllHold (vertical_parts line))
    pub horizontal_edge : (p : Position) → Holds (parts.horizontal_edge p)
    pub vertical_edge : (p : Position) → Holds (parts.vertical_edge p)
    pub corner : (p : Position) → Holds (parts.corner p)

  abbrev pub IsBorderCall : BorderCall T → Type 0
  IsBorderCall (lines.InsertBorder p border) = AllHold (border_parts border)
  IsBorderCall (lines.InsertHorizontalLine n line) = AllHold (horizontal_parts line)
  IsBorderCall (lines.InsertVerticalLine n line) = AllHold (vertical_parts line)
  IsBorderCall (lines.SetBorders frame) = AllHold (frame_parts frame)
  IsBorderCall (lines.SetGlobal v) = Q v
  IsBorderCall _ = Unit {0}

  none-parts : AreParts no_parts
  none-parts = record {
    global = tt;
    frame = All-tested Holds is_none none-holds (frame_parts (no_parts {T = T}).frame) refl;
    horizontal_line = λ n. tt;
    vertical_line = λ n. tt;
    horizontal_edge = λ p. tt;
    vertical_edge = λ p. tt;
    corner = λ p. tt;
  }

  position-holds : (written p : Position) (part : Option T) → Holds part → Holds (at_position written p part)
  position-holds written p part holds = if-holds (position_eq written p) part None holds tt

  line-holds : {L : Type 0} (P : L → Type 0) (test : Bool) (a b : Option L) → IfSome a P → IfSome b P → IfSome (if test then a else b) P
  line-holds P true a b first second = first
  line-holds P false a b first second = second

  after-call : (call : BorderCall T) (old : BorderParts T) → IsBorderCall call → AreParts old → AreParts (parts_after_call call old)
  after-call (lines.InsertBorder cell b) old is are = record {
    global = are.global;
    frame = are.frame;
    horizontal_line = are.horizontal_line;
    vertical_line = are.vertical_line;
    horizontal_edge = λ p.
        or-holds (edge_part Rows cell b p) (old.horizontal_edge p)
        (or-holds (at_position cell p b.top) (at_position (below cell) p b.bottom) (position-holds cell p b.top (is 0 None (omega arith)))
        (position-holds (below cell) p b.bottom (is 1 None (omega arith))))
        (are.horizontal_edge p);
    vertical_edge = λ p.
        or-holds (edge_part Columns cell b p) (old.vertical_edge p)
        (or-holds (at_position cell p b.left) (at_position (right_of cell) p b.right) (position-holds cell p b.left (is 2 None (omega arith)))
        (position-holds (right_of cell) p b.right (is 3 None (omega arith))))
        (are.vertical_edge p);
    corner = λ p.
        or-holds (corner_part cell b p) (old.corner p)
        (or-holds (at_position cell p b.left_top_corner) _ (position-holds cell p b.left_top_corner (is 4 None (omega arith)))
        (or-holds (at_position (right_of cell) p b.right_top_corner) _ (position-holds (right_of cell) p b.right_top_corner (is 6 None (omega arith)))
        (or-holds (at_position (below cell) p b.left_bottom_corner) (at_position (below (right_of cell)) p b.right_bottom_corner)
        (position-holds (below cell) p b.left_bottom_corner (is 5 None (omega arith)))
        (position-holds (below (right_of cell)) p b.right_bottom_corner (is 7 None (omega arith))))))
        (are.corner p);
  }
  after-call (lines.RemoveBorder cell) old is are = record {
    global = are.global;
    frame = are.frame;
    horizontal_line = are.horizontal_line;
    vertical_line = are.vertical_line;
    horizontal_edge = λ p. if-holds (is_edge_of Rows cell p) None (old.horizontal_edge p) tt (are.horizontal_edge p);
    vertical_edge = λ p. if-holds (is_edge_of Columns cell p) None (old.vertical_edge p) tt (are.vertical_edge p);
    corner = λ p. if-holds (is_corner_of cell p) None (old.corner p) tt (are.corner p);
  }
  after-call (lines.InsertHorizontalLine n line) old is are = record {
    global = are.global;
    frame = are.frame;
    horizontal_line = λ k. line-holds (λ line. AllHold (horizontal_parts line)) (n == k) (Some line) (old.horizontal_line k) is (are.horizontal_line k);
    vertical_line = are.vertical_line;
    horizontal_edge = are.horizontal_edge;
    vertical_edge = are.vertical_edge;
    corner = are.corner;
  }
  after-call (lines.RemoveHorizontalLine n) old is are = record {
    global = are.global;
    frame = are.frame;
    horizontal_line = λ k. line-holds (λ line. AllHold (horizontal_parts line)) (n == k) None (old.horizontal_line k) tt (are.horizontal_line k);
    vertical_line = are.vertical_line;
    horizontal_edge = are.horizontal_edge;
    vertical_edge = are.vertical_edge;
    corner = are.corner;
  }
  after-call (lines.InsertVerticalLine n line) old is are = record {
    global = are.global;
    frame = are.frame;
    horizontal_line = are.horizontal_line;
    vertical_line = λ k. line-holds (λ line. AllHold (vertical_parts line)) (n == k) (Some line) (old.vertical_line k) is (are.vertical_line k);
    horizontal_edge = are.horizontal_edge;
    vertical_edge = are.vertical_edge;
    corner = are.corner;
  }
  after-call (lines.RemoveVerticalLine n) old is are = record {
    global = are.global;
    frame = are.frame;
    horizontal_line = are.horizontal_line;
    vertical_line = λ k. line-holds (λ line. AllHold (vertical_parts line)) (n == k) None (old.vertical_line k) tt (are.vertical_line k);
    horizontal_edge = are.horizontal_edge;
    vertical_edge = are.vertical_edge;
    corner = are.corner;
  }
  after-call (lines.SetBorders frame) old is are = record {
    global = are.global;
    frame = is;
    horizontal_line = are.horizontal_line;
    vertical_line = are.vertical_line;
    horizontal_edge = are.horizontal_edge;
    vertical_edge = are.vertical_edge;
    corner = are.corner;
  }
  after-call (lines.SetGlobal v) old is are = record {
    global = is;
    frame = are.frame;
    horizontal_line = are.horizontal_line;
    vertical_line = are.vertical_line;
    horizontal_edge = are.horizontal_edge;
    vertical_edge = are.vertical_edge;
    corner = are.corner;
  }
  after-call lines.Clear old is are = none-parts

  pub from-calls : (calls : List (BorderCall T)) → All IsBorderCall calls → AreParts (parts_from calls)
  from-calls [] all = none-parts
  from-calls (call ∷ calls) all = after-call call (parts_from calls) (All-head IsBorderCall call calls all) (from-calls calls (All-tail IsBorderCall call calls all))

  -- what is found of such parts
  module _ (parts : BorderParts T) (are : AreParts parts) where
    pub vertical-found : (p : Position) (count : ℕ) → Holds (found_vertical parts p count)
    vertical-found p count =
        let frame = parts.frame in
        or-holds (parts.vertical_edge p) _ (are.vertical_edge p)
        (or-holds (option_and_then (λ (line : VerticalLine T). line.main) (parts.vertical_line p.col)) _
        (then-holds (λ line. AllHold (vertical_parts line)) (λ (line : VerticalLine T). line.main) (parts.vertical_line p.col) (λ line all. all 0 None (omega arith))
        (are.vertical_line p.col))
        (or-holds (frame_vertical frame p.col count) parts.global
        (if-holds (p.col == count) frame.right _ (are.frame 13 None (omega arith))
        (if-holds (p.col == 0) frame.left frame.vertical (are.frame 11 None (omega arith)) (are.frame 9 None (omega arith))))
        are.global))

    pub horizontal-found : (p : Position) (count : ℕ) → Holds (found_horizontal parts p count)
    horizontal-found p count =
        let frame = parts.frame in
        or-holds (parts.horizontal_edge p) _ (are.horizontal_edge p)
        (or-holds (option_and_then (λ (line : HorizontalLine T). line.main) (parts.horizontal_line p.row)) _
        (then-holds (λ line. AllHold (horizontal_parts line)) (λ (line : HorizontalLine T). line.main) (parts.horizontal_line p.row)
        (λ line all. all 0 None (omega arith)) (are.horizontal_line p.row))
        (or-holds (frame_horizontal frame p.row count) parts.global
        (if-holds (p.row == 0) frame.top _ (are.frame 0 None (omega arith))
        (if-holds (p.row == count) frame.bottom frame.horizontal (are.frame 4 None (omega arith)) (are.frame 8 None (omega arith))))
        are.global))

    crossing-holds : (place count : ℕ) (first end inner : Option T) → Holds first → Holds end → Holds inner → Holds (crossing_part place count first end inner)
    crossing-holds place count first end inner one two three =
        or-holds (only_if (place == 0) first) _ (if-holds (place == 0) first None one tt)
        (or-holds (only_if (place == count) end) _ (if-holds (place == count) end None two tt)
        (if-holds (not (place == 0) && not (place == count)) inner None three tt))

    frame-crossing : (p : Position) (rows cols : ℕ) → Holds (of_frame parts.frame p rows cols)
    frame-crossing p rows cols =
        let frame = parts.frame in
        if-holds (p.row == 0 && p.col == 0) frame.top_left _ (are.frame 1 None (omega arith))
        (if-holds (p.row == 0 && p.col == cols) frame.top_right _ (are.frame 2 None (omega arith))
        (if-holds (p.row == rows && p.col == 0) frame.bottom_left _ (are.frame 5 None (omega arith))
        (if-holds (p.row == rows && p.col == cols) frame.bottom_right _ (are.frame 6 None (omega arith))
        (if-holds (p.row == 0) frame.top_intersection _ (are.frame 3 None (omega arith))
        (if-holds (p.row == rows) frame.bottom_intersection _ (are.frame 7 None (omega arith))
        (if-holds (p.col == 0) frame.left_intersection _ (are.frame 12 None (omega arith))
        (if-holds (p.col == cols) frame.right_intersection frame.intersection (are.frame 14 None (omega arith)) (are.frame 10 None (omega arith)))))))))

    pub crossing-found : (p : Position) (rows cols : ℕ) → Holds (found_intersection parts p rows cols)
    crossing-found p rows cols =
        or-holds (parts.corner p) _ (are.corner p)
        (or-holds (option_and_then (of_horizontal_line p.col cols) (parts.horizontal_line p.row)) _
        (then-holds (λ line. AllHold (horizontal_parts line)) (of_horizontal_line p.col cols) (parts.horizontal_line p.row)
        (λ line all. crossing-holds p.col cols line.left line.right line.intersection (all 2 None (omega arith)) (all 3 None (omega arith)) (all 1 None (omega arith)))
        (are.horizontal_line p.row))
        (or-holds (option_and_then (of_vertical_line p.row rows) (parts.vertical_line p.col)) _
        (then-holds (λ line. AllHold (vertical_parts line)) (of_vertical_line p.row rows) (parts.vertical_line p.col)
        (λ line all. crossing-holds p.row rows line.top line.bottom line.intersection (all 2 None (omega arith)) (all 3 None (omega arith)) (all 1 None (omega arith)))
        (are.vertical_line p.col))
        (or-holds (of_frame parts.frame p rows cols) parts.global (frame-crossing p rows cols) are.global)))

  -- ---- overrides

  abbrev pub IsOffsetCall : OffsetCall T → Type 0
  IsOffsetCall (overrides.SetAt q k v) = Q v
  IsOffsetCall _ = Unit {0}

  pub overrides-hold : (calls : List (OffsetCall T)) → All IsOffsetCall calls → (p : Position) (o : Offset) → Holds (overrides_from calls p o)
  overrides-hold [] all p o = tt
  overrides-hold (overrides.SetAt q k v ∷ calls) all p o =
      if-holds (position_eq q p && is_same_offset k o) (Some v) (overrides_from calls p o) (All-head IsOffsetCall (overrides.SetAt q k v) calls all)
      (overrides-hold calls (All-tail IsOffsetCall (overrides.SetAt q k v) calls all) p o)
  overrides-hold (overrides.RemoveAt q ∷ calls) all p o =
      if-holds (position_eq q p) None (overrides_from calls p o) tt (overrides-hold calls (All-tail IsOffsetCall (overrides.RemoveAt q) calls all) p o)
  overrides-hold (overrides.RemoveAll ∷ calls) all p o = tt

  pub override-found : (stored : Offset → Option T) → ((o : Offset) → Holds (stored o)) → (k limit : ℕ) → Holds (found_override stored k limit)
  override-found stored each k limit =
      or-holds (stored (Start k)) _ (each (Start k)) (if-holds (nat_lt k limit) (stored (End (limit - k - 1))) None (each (End (limit - k - 1))) tt)

  -- ---- values by entity

  abbrev pub IsMapCall : MapCall T → Type 0
  IsMapCall (Insert entity v) = Q v
  IsMapCall (Remove entity) = Unit {0}

  standing-holds : (entity : Entity) (calls : List (MapCall T)) → All IsMapCall calls → Holds (standing_value entity calls)
  standing-holds entity [] all = tt
  standing-holds entity (Insert Global v ∷ calls) all = tt
  standing-holds entity (Remove Global ∷ calls) all = tt
  standing-holds entity (Insert (Column k) v ∷ calls) all =
      if-holds (entity_eq (Column k) entity) (Some v) (standing_value entity calls) (All-head IsMapCall (Insert (Column k) v) calls all)
      (standing-holds entity calls (All-tail IsMapCall (Insert (Column k) v) calls all))
  standing-holds entity (Insert (Row k) v ∷ calls) all =
      if-holds (entity_eq (Row k) entity) (Some v) (standing_value entity calls) (All-head IsMapCall (Insert (Row k) v) calls all)
      (standing-holds entity calls (All-tail IsMapCall (Insert (Row k) v) calls all))
  standing-holds entity (Insert (Cell i j) v ∷ calls) all =
      if-holds (entity_eq (Cell i j) entity) (Some v) (standing_value entity calls) (All-head IsMapCall (Insert (Cell i j) v) calls all)
      (standing-holds entity calls (All-tail IsMapCall (Insert (Cell i j) v) calls all))
  standing-holds entity (Remove (Column k) ∷ calls) all = standing-holds entity calls (All-tail IsMapCall (Remove (Column k)) calls all)
  standing-holds entity (Remove (Row k) ∷ calls) all = standing-holds entity calls (All-tail IsMapCall (Remove (Row k)) calls all)
  standing-holds entity (Remove (Cell i j) ∷ calls) all = standing-holds entity calls (All-tail IsMapCall (Remove (Cell i j)) calls all)

  global-holds : (given : T) (calls : List (MapCall T)) → Q given → All IsMapCall calls → Q (global_value given calls)
  global-holds given [] first all = first
  global-holds given (Insert Global v ∷ calls) first all = All-head IsMapCall (Insert Global v) calls all
  global-holds given (Insert (Column k) v ∷ calls) first all = global-holds given calls first (All-tail IsMapCall (Insert (Column k) v) calls all)
  global-holds given (Insert (Row k) v ∷ calls) first all = global-holds given calls first (All-tail IsMapCall (Insert (Row k) v) calls all)
  global-holds given (Insert (Cell i j) v ∷ calls) first all = global-holds given calls first (All-tail IsMapCall (Insert (Cell i j) v) calls all)
  global-holds given (Remove entity ∷ calls) first all = global-holds given calls first (All-tail IsMapCall (Remove entity) calls all)

  cell-holds : (r c : ℕ) (calls : List (MapCall T)) → All IsMapCall calls → Holds (cell_override_value r c calls)
  cell-holds r c [] all = tt
  cell-holds r c (Insert Global v ∷ calls) all = tt
  cell-holds r c (Remove Global ∷ calls) all = tt
  cell-holds r c (Insert (Cell i j) v ∷ calls) all =
      if-holds (i == r && j == c) (Some v) (cell_override_value r c calls) (All-head IsMapCall (Insert (Cell i j) v) calls all)
      (cell-holds r c calls (All-tail IsMapCall (Insert (Cell i j) v) calls all))
  cell-holds r c (Insert (Row i) v ∷ calls) all =
      if-holds (i == r && is_some (standing_value (Column c) calls)) (Some v) (cell_override_value r c calls) (All-head IsMapCall (Insert (Row i) v) calls all)
      (cell-holds r c calls (All-tail IsMapCall (Insert (Row i) v) calls all))
  cell-holds r c (Insert (Column j) v ∷ calls) all =
      if-holds (j == c && is_some (standing_value (Row r) calls)) (Some v) (cell_override_value r c calls) (All-head IsMapCall (Insert (Column j) v) calls all)
      (cell-holds r c calls (All-tail IsMapCall (Insert (Column j) v) calls all))
  cell-holds r c (Remove (Cell i j) ∷ calls) all =
      if-holds (i == r && j == c) None (cell_override_value r c calls) tt (cell-holds r c calls (All-tail IsMapCall (Remove (Cell i j)) calls all))
  cell-holds r c (Remove (Row i) ∷ calls) all =
      if-holds (i == r) None (cell_override_value r c calls) tt (cell-holds r c calls (All-tail IsMapCall (Remove (Row i)) calls all))
  cell-holds r c (Remove (Column j) ∷ calls) all =
      if-holds (j == c) None (cell_override_value r c calls) tt (cell-holds r c calls (All-tail IsMapCall (Remove (Column j)) calls all))

  pub value-found : (given : T) (calls : List (MapCall T)) (stored : Stored T) → HasMapHistory given calls stored → Q given → All IsMapCall calls →
      (p : Position) → Q (stored_value stored p)
  value-found given calls stored history first all p =
      let newest = All-reverse IsMapCall calls all in
      let found = search_of_history calls given stored history in
      unwrap-holds _ _ (subst Holds (sym (found.cells p)) (cell-holds p.row p.col (reverse calls) newest))
      (unwrap-holds _ _ (subst Holds (sym (found.columns p.col)) (standing-holds (Column p.col) (reverse calls) newest))
      (unwrap-holds _ _ (subst Holds (sym (found.rows p.row)) (standing-holds (Row p.row) (reverse calls) newest))
      (subst Q (sym found.global) (global-holds given (reverse calls) first newest))))

  pub newest-holds : (default : T) (values : List T) → Q default → All Q values → Q (newest_or default values)
  newest-holds default [] first all = first
  newest-holds default (v ∷ values) first all = All-head Q v values all

-- ---- separators

part-holds : (part : Option ℕ) → part_separates part ≡ true → IfSome part IsSeparator
part-holds None is = tt
part-holds (Some c) is = separates c is

parts-hold : (parts : List (Option ℕ)) → list_all part_separates parts ≡ true → All (Holds IsSeparator) parts
parts-hold = All-tested (Holds IsSeparator) part_separates part-holds

-- the four characters of paddings
abbrev AreFilled : Sides Indent → Type 0
AreFilled sides = All (λ (indent : Indent). IsSeparator indent.fill) (sides_parts sides)

-- the calls of each part that a setting stands for
of-characters : (s : Setting) → setting_separates s ≡ true → All (IsBorderCall IsSeparator) (character_calls s)
of-characters (SetBorder p border) is = All-one (IsBorderCall IsSeparator) (lines.InsertBorder p border) (parts-hold (border_parts border) is)
of-characters (RemoveBorder p shape) is = All-one (IsBorderCall IsSeparator) (lines.RemoveBorder p) tt
of-characters (InsertHorizontalLine n line) is = All-one (IsBorderCall IsSeparator) (lines.InsertHorizontalLine n line) (parts-hold (horizontal_parts line) is)
of-characters (RemoveHorizontalLine n count) is = All-one (IsBorderCall IsSeparator) (lines.RemoveHorizontalLine n) tt
of-characters (InsertVerticalLine n line) is = All-one (IsBorderCall IsSeparator) (lines.InsertVerticalLine n line) (parts-hold (vertical_parts line) is)
of-characters (RemoveVerticalLine n count) is = All-one (IsBorderCall IsSeparator) (lines.RemoveVerticalLine n) tt
of-characters (SetBorders frame) is = All-one (IsBorderCall IsSeparator) (lines.SetBorders frame) (parts-hold (frame_parts frame) is)
of-characters (SetBorderDefault c) is = All-one (IsBorderCall IsSeparator) (lines.SetGlobal c) (separates c is)
of-characters RemoveBorders is = All-one (IsBorderCall IsSeparator) lines.Clear tt
of-characters _ is = All-nil (IsBorderCall IsSeparator)

of-horizontal_chars : (s : Setting) → setting_separates s ≡ true → All (IsOffsetCall IsSeparator) (horizontal_char_calls s)
of-horizontal_chars (SetHorizontalChar p o c) is = All-one (IsOffsetCall IsSeparator) (overrides.SetAt p o c) (separates c is)
of-horizontal_chars (RemoveOverriddenHorizontal p) is = All-one (IsOffsetCall IsSeparator) (overrides.RemoveAt p) tt
of-horizontal_chars RemoveHorizontalChars is = All-one (IsOffsetCall IsSeparator) overrides.RemoveAll tt
of-horizontal_chars _ is = All-nil (IsOffsetCall IsSeparator)

of-vertical_chars : (s : Setting) → setting_separates s ≡ true → All (IsOffsetCall IsSeparator) (vertical_char_calls s)
of-vertical_chars (SetVerticalChar p o c) is = All-one (IsOffsetCall IsSeparator) (overrides.SetAt p o c) (separates c is)
of-vertical_chars (RemoveOverriddenVertical p) is = All-one (IsOffsetCall IsSeparator) (overrides.RemoveAt p) tt
of-vertical_chars RemoveVerticalChars is = All-one (IsOffsetCall IsSeparator) overrides.RemoveAll tt
of-vertical_chars _ is = All-nil (IsOffsetCall IsSeparator)

of-padding : (s : Setting) → setting_separates s ≡ true → All (IsMapCall AreFilled) (padding_calls s)
of-padding (SetPadding entity sides) is =
    All-one (IsMapCall AreFilled) (Insert entity sides)
    (All-tested (λ (indent : Indent). IsSeparator indent.fill) (λ (indent : Indent). is_separator indent.fill) (λ indent passes. separates indent.fill passes)
    (sides_parts sides) is)
of-padding _ is = All-nil (IsMapCall AreFilled)

of-justification : (s : Setting) → setting_separates s ≡ true → All (IsMapCall IsSeparator) (justification_calls s)
of-justification (SetJustification entity c) is = All-one (IsMapCall IsSeparator) (Insert entity c) (separates c is)
of-justification _ is = All-nil (IsMapCall IsSeparator)

of-missing : (s : Setting) → setting_separates s ≡ true → All IsSeparator (missing_characters s)
of-missing (SetBordersMissing c) is = All-one IsSeparator c (separates c is)
of-missing _ is = All-nil IsSeparator

-- ---- a drawing by settings

module _ (d : Drawing) (settings : List Setting) (history : HasSettingHistory settings d.config) (all : list_all setting_separates settings ≡ true) where
  calls-of : {B : Type 0} (R : B → Type 0) (f : Setting → List B) → ((s : Setting) → setting_separates s ≡ true → All R (f s)) → All R (flat_map f settings)
  calls-of R f each =
      All-flat_map (λ s. setting_separates s ≡ true) R f each settings
      (All-tested (λ s. setting_separates s ≡ true) setting_separates (λ s is. is) settings all)

  newest-of : {B : Type 0} (R : B → Type 0) (f : Setting → List B) → ((s : Setting) → setting_separates s ≡ true → All R (f s)) → All R (reverse (flat_map f settings))
  newest-of R f each = All-reverse R (flat_map f settings) (calls-of R f each)

  blank : IsSeparator 32
  blank = separates 32 refl

  missing : IsSeparator d.config.missing
  missing =
      subst IsSeparator (sym history.missing)
      (newest-holds IsSeparator 32 (reverse (flat_map missing_characters settings)) blank (newest-of IsSeparator missing_characters of-missing))

  parts : AreParts IsSeparator (parts_of_borders d.config.characters)
  parts =
      subst (AreParts IsSeparator) (sym history.characters)
      (from-calls IsSeparator (reverse (flat_map character_calls settings)) (newest-of (IsBorderCall IsSeparator) character_calls of-characters))

  horizontal_char : (p : Position) (k limit : ℕ) → IfSome (found_override (override_at d.config.horizontal_chars p) k limit) IsSeparator
  horizontal_char p =
      override-found IsSeparator (override_at d.config.horizontal_chars p) (λ o. subst (Holds IsSeparator) (sym (history.horizontal_chars p o))
      (overrides-hold IsSeparator (reverse (flat_map horizontal_char_calls settings)) (newest-of (IsOffsetCall IsSeparator) horizontal_char_calls of-horizontal_chars) p o))

  vertical_char : (p : Position) (k limit : ℕ) → IfSome (found_override (override_at d.config.vertical_chars p) k limit) IsSeparator
  vertical_char p =
      override-found IsSeparator (override_at d.config.vertical_chars p) (λ o. subst (Holds IsSeparator) (sym (history.vertical_chars p o))
      (overrides-hold IsSeparator (reverse (flat_map vertical_char_calls settings)) (newest-of (IsOffsetCall IsSeparator) vertical_char_calls of-vertical_chars) p o))

  padding : (p : Position) → AreFilled (stored_value d.config.padding p)
  padding =
      value-found AreFilled (all_sides (spaces 0)) (flat_map padding_calls settings) d.config.padding history.padding
      (All-tested (λ (indent : Indent). IsSeparator indent.fill) (λ (indent : Indent). is_separator indent.fill) (λ indent passes. separates indent.fill passes)
      (sides_parts (all_sides (spaces 0))) refl)
      (calls-of (IsMapCall AreFilled) padding_calls of-padding)

  justification : (p : Position) → IsSeparator (stored_value d.config.justification p)
  justification =
      value-found IsSeparator 32 (flat_map justification_calls settings) d.config.justification history.justification blank
      (calls-of (IsMapCall IsSeparator) justification_calls of-justification)

  fills : (p : Position) → All IsSeparator (fills_of (look_of d.config p))
  fills p =
      let sides = stored_value d.config.padding p in
      let four = padding p in
      all-five IsSeparator sides.left.fill sides.right.fill sides.top.fill sides.bottom.fill (stored_value d.config.justification p)
      (four 2 sides.left (omega arith)) (four 3 sides.right (omega arith)) (four 0 sides.top (omega arith)) (four 1 sides.bottom (omega arith)) (justification p)

  pub with-separators : HasSeparators d
  with-separators = record {
    vertical = λ p k.
        unwrap-holds IsSeparator _ d.config.missing
        (or-holds IsSeparator (found_override (override_at d.config.vertical_chars p) k (d.heights p.row)) _ (vertical_char p k (d.heights p.row))
        (vertical-found IsSeparator (parts_of_borders d.config.characters) parts p d.shape.1)) missing;
    crossing = λ p. unwrap-holds IsSeparator _ d.config.missing (crossing-found IsSeparator (parts_of_borders d.config.characters) parts p d.shape.0 d.shape.1) missing;
    horizontal = λ p. unwrap-holds IsSeparator _ d.config.missing (horizontal-found IsSeparator (parts_of_borders d.config.characters) parts p d.shape.0) missing;
    overridden = λ p k c is. subst (Holds IsSeparator) is (horizontal_char p k (d.widths p.col));
    filled = λ p cell. fills p;
  }
