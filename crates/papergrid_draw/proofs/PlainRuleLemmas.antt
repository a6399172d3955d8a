-- The horizontal lines of a table whose cells span nothing, and whose lines have no part, colour or character of a single cell.
use Rattle.std.proofs.Common.{◌≡◌, ◌∙◌, ap, sym, refl, ℕ, zero, suc, ◌+◌, ◌<◌, ◌≤◌, Bool, true, false, ◌&&◌, List, [], ◌∷◌, ◌++◌, Option, None, map, arith}
use Rattle.std.specs.Prelude.{◌==◌, IsSome, if◌then◌else◌, is_some, not, option_and_then, unwrap_or}
use Rattle.std.specs.FinMap.{get}
use Rattle.std.specs.List.{flat_map, range_with_len}
use Rattle.std.specs.Option.{option_or}
use Rattle.std.proofs.lemmas.Bool.{false≢true, ne_eqb}
use Rattle.papergrid_values.specs.Positions.{position_of}
use Rattle.papergrid_values.specs.declared.position.Position.{Position}
use Rattle.papergrid_tables.specs.BorderParts.{BorderParts, HasNoCellParts, found_horizontal, found_intersection, of_horizontal_line}
use Rattle.papergrid_tables.specs.StoredBorders.{parts_of_borders}
use Rattle.papergrid_draw.specs.Characters.{crossing, has_overrides, overridden_mark, plain_mark, segment, segment_character, segment_piece}
use Rattle.papergrid_draw.specs.Drawings.{Drawing}
use Rattle.papergrid_draw.specs.Drawn.{OnLine, column_stretch, crossing_stretch, draws_vertical, rule_line}
use Rattle.papergrid_draw.specs.Pieces.{Crossing, Line, fill_text}
use Rattle.papergrid_draw.specs.ForProofs.Plain.{IsCommonRule, IsPlain}
use Rattle.papergrid_draw.proofs.OverrideLemmas.{has_overrides-IsOverridden}
use Rattle.papergrid_draw.proofs.PlainLemmas.{bare-parts, plain-crossing, plain-over}
use Rattle.papergrid_draw.proofs.RuleLemmas.{stretch-line}

-- ---- the same at two horizontal lines

flat_map-same : {X : Type 0} (f g : ℕ → List X) (a n : ℕ) → ((c : ℕ) → c < a + n → f c ≡ g c) → flat_map f (range_with_len a n) ≡ flat_map g (range_with_len a n)
flat_map-same f g a zero same = refl
flat_map-same f g a (suc n) same = λ i. same a (omega arith) i ++ flat_map-same f g (a + 1) n (λ c below. same c (omega (arith, below))) i

-- lines that are alike at both ends of the table, or at neither, and have the same line held
module _ {T : Type 0} (places : BorderParts T) (bare : HasNoCellParts places) (rows i k : ℕ) (first : (i == 0) ≡ (k == 0)) (last : (i == rows) ≡ (k == rows))
    (held : places.horizontal_line i ≡ places.horizontal_line k) where
  same-horizontal : (c : ℕ) → found_horizontal places (position_of (i, c)) rows ≡ found_horizontal places (position_of (k, c)) rows
  same-horizontal c = λ t. option_or ((bare.horizontal_edges (position_of (i, c)) ∙ sym (bare.horizontal_edges (position_of (k, c)))) t)
      (option_or (option_and_then (λ line. line.main) (held t))
      (option_or (if first t then places.frame.top else (if last t then places.frame.bottom else places.frame.horizontal)) places.global))

  same-intersection : (c cols : ℕ) → found_intersection places (position_of (i, c)) rows cols ≡ found_intersection places (position_of (k, c)) rows cols
  same-intersection c cols = λ t. option_or ((bare.corners (position_of (i, c)) ∙ sym (bare.corners (position_of (k, c)))) t)
      (option_or (option_and_then (of_horizontal_line c cols) (held t))
      (option_or (option_and_then (λ line. option_or (if first t then line.top else None)
      (option_or (if last t then line.bottom else None) (if not (first t) && not (last t) then line.intersection else None))) (places.vertical_line c))
      (option_or
      (if first t && c == 0 then places.frame.top_left else
      (if first t && c == cols then places.frame.top_right else
      (if last t && c == 0 then places.frame.bottom_left else
      (if last t && c == cols then places.frame.bottom_right else
      (if first t then places.frame.top_intersection else
      (if last t then places.frame.bottom_intersection else
      (if c == 0 then places.frame.left_intersection else
      (if c == cols then places.frame.right_intersection else places.frame.intersection))))))))
      places.global)))

and-true : (b : Bool) → (b && true) ≡ b
and-true true = refl
and-true false = refl

never : (b : Bool) → (b ≡ true → ⊥) → b ≡ false
never true none = absurd (none refl)
never false none = refl

absent : {T : Type 0} (held : Option T) → held ≡ None → IsSome held → ⊥
absent held none some = false≢true (sym (ap is_some none) ∙ some)

module _ (d : Drawing) (plain : IsPlain d.config) where
  -- no character of a segment is overridden
  plain-segment : (p : Position) (width : ℕ) →
      segment d.config d.shape p width ≡ (if width == 0 then [] else (plain_mark (segment_piece d.config d.shape p (segment_character d.config d.shape p) width) ∷ []))
  plain-segment p width =
      ap (λ b. if b then map (overridden_mark d.config d.shape p width) (range_with_len 0 width)
      else if width == 0 then [] else (plain_mark (segment_piece d.config d.shape p (segment_character d.config d.shape p) width) ∷ []))
      (never (has_overrides (get d.config.horizontal_chars p))
      (λ some. let found = (has_overrides-IsOverridden d.config.horizontal_chars p).0 some in absent _ (plain.lines.horizontal_chars p found.0) found.1))

  -- what stands where a horizontal line crosses a vertical one
  pub plain-crossing-stretch : (i j : ℕ) → j ≤ d.shape.1 →
      crossing_stretch d i j ≡ (if draws_vertical d j then OnLine (crossing d.config d.shape (position_of (i, j))) ∷ [] else [])
  plain-crossing-stretch i j within =
      ap (λ over. if draws_vertical d j && not over then OnLine (crossing d.config d.shape (position_of (i, j))) ∷ [] else []) (plain-crossing d plain i j within)
      ∙ ap (λ seen. if seen then OnLine (crossing d.config d.shape (position_of (i, j))) ∷ [] else []) (and-true (draws_vertical d j))

  -- ---- lines between rows that have none of their own are the same

  module _ (i k : ℕ) (one : IsCommonRule d i) (other : IsCommonRule d k) where
    abbrev characters : BorderParts ℕ
    characters = parts_of_borders d.config.characters

    first-same : (i == 0) ≡ (k == 0)
    first-same = ne_eqb i 0 (λ e. omega (arith, one.0, e)) ∙ sym (ne_eqb k 0 (λ e. omega (arith, other.0, e)))

    last-same : (i == d.shape.0) ≡ (k == d.shape.0)
    last-same = ne_eqb i d.shape.0 (λ e. omega (arith, one.1, e)) ∙ sym (ne_eqb k d.shape.0 (λ e. omega (arith, other.1, e)))

    line-same : characters.horizontal_line i ≡ characters.horizontal_line k
    line-same = one.2 ∙ sym other.2

    -- colours are held nowhere
    uncolored-same : (parts_of_borders d.config.colors).horizontal_line i ≡ (parts_of_borders d.config.colors).horizontal_line k
    uncolored-same = ap (λ (held : BorderParts _). held.horizontal_line i) plain.lines.colors ∙ sym (ap (λ (held : BorderParts _). held.horizontal_line k) plain.lines.colors)

    crossing-same : (j : ℕ) → crossing d.config d.shape (position_of (i, j)) ≡ crossing d.config d.shape (position_of (k, j))
    crossing-same j = λ t. plain_mark (record {
      kind = Crossing;
      text = fill_text (unwrap_or (same-intersection characters plain.lines.characters d.shape.0 i k first-same last-same line-same j d.shape.1 t) d.config.missing) 1;
      columns = 1;
      color = same-intersection (parts_of_borders d.config.colors) (bare-parts (parts_of_borders d.config.colors) plain.lines.colors) d.shape.0 i k
          first-same last-same uncolored-same j d.shape.1 t;
    })

    segment-same : (c width : ℕ) → segment d.config d.shape (position_of (i, c)) width ≡ segment d.config d.shape (position_of (k, c)) width
    segment-same c width =
        plain-segment (position_of (i, c)) width
        ∙ (λ t. if width == 0 then [] else (plain_mark (record {
          kind = Line;
          text = fill_text (unwrap_or (same-horizontal characters plain.lines.characters d.shape.0 i k first-same last-same line-same c t) d.config.missing) width;
          columns = width;
          color = same-horizontal (parts_of_borders d.config.colors) (bare-parts (parts_of_borders d.config.colors) plain.lines.colors) d.shape.0 i k
              first-same last-same uncolored-same c t;
        }) ∷ []))
        ∙ sym (plain-segment (position_of (k, c)) width)

    crossing_stretch-same : (j : ℕ) → j ≤ d.shape.1 → crossing_stretch d i j ≡ crossing_stretch d k j
    crossing_stretch-same j within =
        plain-crossing-stretch i j within
        ∙ ap (λ mark. if draws_vertical d j then OnLine mark ∷ [] else []) (crossing-same j)
        ∙ sym (plain-crossing-stretch k j within)

    column_stretch-same : (c : ℕ) → c < d.shape.1 → column_stretch d i c ≡ column_stretch d k c
    column_stretch-same c inside =
        sym (stretch-line d i c (plain-over d plain i c inside))
        ∙ ap (map OnLine) (segment-same c (d.widths c))
        ∙ stretch-line d k c (plain-over d plain k c inside)

    pub rule-same : rule_line d i ≡ rule_line d k
    rule-same =
        ap (λ columns. columns ++ crossing_stretch d i d.shape.1)
        (flat_map-same (λ c. crossing_stretch d i c ++ column_stretch d i c) (λ c. crossing_stretch d k c ++ column_stretch d k c) 0 d.shape.1
        (λ c below. let inside : c < d.shape.1 = omega (arith, below) in
        λ t. crossing_stretch-same c (let le : c ≤ d.shape.1 = omega arith in le) t ++ column_stretch-same c inside t))
        ∙ ap (λ last. flat_map (λ c. crossing_stretch d k c ++ column_stretch d k c) (range_with_len 0 d.shape.1) ++ last)
        (crossing_stretch-same d.shape.1 (omega arith))
