-- Colours change no character of a picture.
use Rattle.std.proofs.Common.{◌≡◌, ◌∙◌, ap, refl, sym, ℕ, ◌+◌, ◌-◌, ◌&&◌, Bool, true, false, List, [], ◌∷◌, ◌++◌, None, Option, Some, get_or, length, map}
use Rattle.std.specs.Prelude.{◌==◌, if◌then◌else◌, nat_lt, not}
use Rattle.std.specs.FinMap.{get}
use Rattle.std.specs.List.{flat_map, range_with_len}
use Rattle.std.proofs.lemmas.List.{map-append}
use Rattle.papergrid_values.specs.Positions.{position_of}
use Rattle.papergrid_values.specs.declared.direction.Direction.TheVariants.{Rows}
use Rattle.papergrid_values.specs.declared.position.Position.{Position}
use Rattle.papergrid_config.specs.declared.spanned.SpannedConfig.{SpannedConfig}
use Rattle.papergrid_layout.specs.Places.{begin_along, line_offset, track_line, track_size}
use Rattle.papergrid_draw.specs.Characters.{Mark, crossing, has_overrides, overridden_mark, plain_mark, segment, segment_character, segment_piece, vertical}
use Rattle.papergrid_draw.specs.Colored.{AreAlikeButColors, uncolored, with_colors_of}
use Rattle.papergrid_draw.specs.Contents as contents
use Rattle.papergrid_draw.specs.Contents.{above, before, block_at, content, inner, line_pieces, shown, shown_line}
use Rattle.papergrid_draw.specs.Drawings.{Drawing, layout_of}
use Rattle.papergrid_draw.specs.Drawn.{DrawnLine, OnLine, RuleLine, TextLine, after_these, column_pieces, content_from, drawn_lines, draws_horizontal, draws_vertical, over_line, owner_at, row_lines, rule_line, rule_lines, stands_over, stands_over_crossing, text_line, vertical_pieces}
use Rattle.papergrid_draw.specs.Laws.{pieces_of, stretch_pieces, text_piece}
use Rattle.papergrid_draw.specs.Pieces.{Justification, Kind, Padding, Piece, fill, fill_text}
use Rattle.papergrid_draw.proofs.BlockLemmas.{Line}
use Rattle.papergrid_draw.proofs.OverLemmas.{all-pieces, crossing_pieces, over_pieces, parts, pieces-on_line, rule_pieces}

-- ---- lists that are alike under a map

module _ {X Y : Type 0} (h : X → Y) where
  alike-append : (a b c d : List X) → map h a ≡ map h b → map h c ≡ map h d → map h (a ++ c) ≡ map h (b ++ d)
  alike-append a b c d first second = map-append h a c ∙ (λ i. first i ++ second i) ∙ sym (map-append h b d)

  alike-joined : {A : Type 0} (f g : A → List X) → ((k : A) → map h (f k) ≡ map h (g k)) → (ks : List A) → map h (flat_map f ks) ≡ map h (flat_map g ks)
  alike-joined f g same [] = refl
  alike-joined f g same (k ∷ ks) = alike-append (f k) (g k) (flat_map f ks) (flat_map g ks) (same k) (alike-joined f g same ks)

  alike-mapped : {A : Type 0} (f g : A → X) → ((k : A) → h (f k) ≡ h (g k)) → (ks : List A) → map h (map f ks) ≡ map h (map g ks)
  alike-mapped f g same [] = refl
  alike-mapped f g same (k ∷ ks) = λ i. same k i ∷ alike-mapped f g same ks i

-- pieces without their colours
abbrev plain : List Piece → List Piece
plain pieces = map uncolored pieces

-- some are the same as others
abbrev AreAlike : List Piece → List Piece → Type 0
AreAlike a b = plain a ≡ plain b

module _ (a b c d : List Piece) where
  both-alike : AreAlike a b → AreAlike c d → AreAlike (a ++ c) (b ++ d)
  both-alike = alike-append uncolored a b c d

fills-alike : (kind : Kind) (character n : ℕ) (color other : Option (List ℕ × List ℕ)) → AreAlike (fill kind character n color) (fill kind character n other)
fills-alike kind character n color other = in_case (n == 0)
  where
    in_case : (none : Bool) → AreAlike
        (if none then [] else (record { kind = kind; text = fill_text character n; columns = n; color = color } ∷ []))
        (if none then [] else (record { kind = kind; text = fill_text character n; columns = n; color = other } ∷ []))
    in_case true = refl
    in_case false = refl

-- a drawing, and another that has these colours
module _ (d : Drawing) (y : SpannedConfig) (color : Position → Option (List ℕ × List ℕ)) where
  abbrev other : Drawing
  other = record d { config = with_colors_of d.config y; color = color }

  -- ---- cells

  module _ (o : Position) where
    abbrev b : contents.Block
    b = block_at d o

    abbrev c : contents.Block
    c = block_at other o

    alike-line : (line : Line) → AreAlike (line_pieces b line) (line_pieces c line)
    alike-line line =
        let left : List Piece = fill Padding b.look.padding.left.fill b.look.padding.left.size b.look.padding_color.left in
        let left' : List Piece = fill Padding b.look.padding.left.fill b.look.padding.left.size c.look.padding_color.left in
        let start : List Piece = fill Justification b.look.justification (before b line) b.look.justification_color in
        let start' : List Piece = fill Justification b.look.justification (before b line) c.look.justification_color in
        let free : ℕ = inner b - (before b line + line.1) in
        let rest : List Piece = fill Justification b.look.justification free b.look.justification_color in
        let rest' : List Piece = fill Justification b.look.justification free c.look.justification_color in
        let right : List Piece = fill Padding b.look.padding.right.fill b.look.padding.right.size b.look.padding_color.right in
        let right' : List Piece = fill Padding b.look.padding.right.fill b.look.padding.right.size c.look.padding_color.right in
        both-alike ((left ++ start) ++ text_piece b line ∷ rest) ((left' ++ start') ++ text_piece c line ∷ rest') right right'
        (both-alike (left ++ start) (left' ++ start') (text_piece b line ∷ rest) (text_piece c line ∷ rest')
        (both-alike left left' start start'
        (fills-alike Padding b.look.padding.left.fill b.look.padding.left.size b.look.padding_color.left c.look.padding_color.left)
        (fills-alike Justification b.look.justification (before b line) b.look.justification_color c.look.justification_color))
        (ap (λ more. uncolored (text_piece b line) ∷ more)
        (fills-alike Justification b.look.justification free b.look.justification_color c.look.justification_color)))
        (fills-alike Padding b.look.padding.right.fill b.look.padding.right.size b.look.padding_color.right c.look.padding_color.right)

    alike-content : (k : ℕ) → AreAlike (content b k) (content c k)
    alike-content k = in_case (nat_lt k (above b)) (nat_lt k (above b + length (shown b)))
      where
        line : Line
        line = shown_line b.look.formatting.horizontal_trim (get_or (shown b) (k - above b) ([], 0))

        in_case : (s t : Bool) → AreAlike
            (if s then fill Padding b.look.padding.top.fill b.width b.look.padding_color.top
            else if t then line_pieces b line else fill Padding b.look.padding.bottom.fill b.width b.look.padding_color.bottom)
            (if s then fill Padding b.look.padding.top.fill b.width c.look.padding_color.top
            else if t then line_pieces c line else fill Padding b.look.padding.bottom.fill b.width c.look.padding_color.bottom)
        in_case true t = fills-alike Padding b.look.padding.top.fill b.width b.look.padding_color.top c.look.padding_color.top
        in_case false true = alike-line line
        in_case false false = fills-alike Padding b.look.padding.bottom.fill b.width b.look.padding_color.bottom c.look.padding_color.bottom

  -- what stands there, if anything does
  abbrev AreBothAlike : Option (List Piece) → Option (List Piece) → Type 0
  AreBothAlike None None = Unit {0}
  AreBothAlike (Some these) (Some those) = AreAlike these those
  AreBothAlike None (Some those) = ⊥
  AreBothAlike (Some these) None = ⊥

  alike-from : (owner : Option Position) (c y : ℕ) → AreBothAlike (content_from d owner c y) (content_from other owner c y)
  alike-from None c y = tt
  alike-from (Some o) c y = in_case (o.col == c) (y - begin_along (layout_of d) Rows o)
    where
      in_case : (here : Bool) (k : ℕ) → AreBothAlike
          (if here then Some (content (block_at d o) k) else None) (if here then Some (content (block_at other o) k) else None)
      in_case true k = alike-content o k
      in_case false k = tt

  alike-after : (front front' : List Piece) (these those : Option (List Piece)) → AreAlike front front' → AreBothAlike these those →
      AreAlike (after_these d front these) (after_these d front' those)
  alike-after front front' None None first both = refl
  alike-after front front' (Some these) (Some those) first both = both-alike front front' these those first both
  alike-after front front' None (Some those) first both = absurd both
  alike-after front front' (Some these) None first both = absurd both

  alike-over : (these those : Option (List Piece)) → AreBothAlike these those →
      AreAlike (flat_map stretch_pieces (over_line d these)) (flat_map stretch_pieces (over_line d those))
  alike-over None None both = refl
  alike-over (Some these) (Some those) both = both-alike these those [] [] both refl
  alike-over None (Some those) both = absurd both
  alike-over (Some these) None both = absurd both

  -- ---- lines of the table

  alike-vertical : (r j k : ℕ) → AreAlike (vertical_pieces d r j k) (vertical_pieces other r j k)
  alike-vertical r j k = in_case (draws_vertical d j)
    where
      in_case : (line : Bool) → AreAlike
          (if line then vertical d.config d.shape (position_of (r, j)) (d.heights r) k ∷ [] else [])
          (if line then vertical other.config d.shape (position_of (r, j)) (d.heights r) k ∷ [] else [])
      in_case true = refl
      in_case false = refl

  alike-crossing : (i j : ℕ) → AreAlike (crossing_pieces d i j) (crossing_pieces other i j)
  alike-crossing i j = in_case (draws_vertical d j && not (stands_over_crossing d i j))
    where
      in_case : (line : Bool) → AreAlike
          (flat_map stretch_pieces (if line then OnLine (crossing d.config d.shape (position_of (i, j))) ∷ [] else []))
          (flat_map stretch_pieces (if line then OnLine (crossing other.config d.shape (position_of (i, j))) ∷ [] else []))
      in_case true = refl
      in_case false = refl

  abbrev segment_pieces : SpannedConfig → Position → ℕ → List Piece
  segment_pieces config p width = map (λ (mark : Mark). mark.piece) (segment config d.shape p width)

  alike-marks : (f g : ℕ → Mark) → ((k : ℕ) → uncolored (f k).piece ≡ uncolored (g k).piece) → (ks : List ℕ) →
      AreAlike (map (λ (mark : Mark). mark.piece) (map f ks)) (map (λ (mark : Mark). mark.piece) (map g ks))
  alike-marks f g same [] = refl
  alike-marks f g same (k ∷ ks) = λ i. same k i ∷ alike-marks f g same ks i

  alike-segment : (p : Position) (width : ℕ) → AreAlike (segment_pieces d.config p width) (segment_pieces other.config p width)
  alike-segment p width = in_case (has_overrides (get d.config.horizontal_chars p)) (width == 0)
    where
      in_case : (overridden none : Bool) → AreAlike
          (map (λ (mark : Mark). mark.piece) (if overridden then map (overridden_mark d.config d.shape p width) (range_with_len 0 width)
          else if none then [] else (plain_mark (segment_piece d.config d.shape p (segment_character d.config d.shape p) width) ∷ [])))
          (map (λ (mark : Mark). mark.piece) (if overridden then map (overridden_mark other.config d.shape p width) (range_with_len 0 width)
          else if none then [] else (plain_mark (segment_piece other.config d.shape p (segment_character d.config d.shape p) width) ∷ [])))
      in_case true none =
          alike-marks (overridden_mark d.config d.shape p width) (overridden_mark other.config d.shape p width) (λ k. refl) (range_with_len 0 width)
      in_case false true = refl
      in_case false false = refl

  -- ---- lines of the picture

  alike-text : (r k : ℕ) → AreAlike (text_line d r k) (text_line other r k)
  alike-text r k =
      both-alike (flat_map (column_pieces d r k) (range_with_len 0 d.shape.1)) (flat_map (column_pieces other r k) (range_with_len 0 d.shape.1))
      (vertical_pieces d r d.shape.1 k) (vertical_pieces other r d.shape.1 k)
      (alike-joined uncolored (column_pieces d r k) (column_pieces other r k)
      (λ c. (let y : ℕ = begin_along (layout_of d) Rows (position_of (r, c)) + k in
      alike-after (vertical_pieces d r c k) (vertical_pieces other r c k)
      (content_from d (owner_at d r c) c y) (content_from other (owner_at d r c) c y)
      (alike-vertical r c k) (alike-from (owner_at d r c) c y)))
      (range_with_len 0 d.shape.1))
      (alike-vertical r d.shape.1 k)

  alike-stretch : (i c : ℕ) → AreAlike (over_pieces d i c) (over_pieces other i c)
  alike-stretch i c = in_case (stands_over d i c) (line_offset (track_size (layout_of d) Rows) (track_line (layout_of d) Rows) i)
    where
      marks : SpannedConfig → List Mark
      marks config = segment config d.shape (position_of (i, c)) (d.widths c)

      in_case : (over : Bool) (y : ℕ) → AreAlike
          (flat_map stretch_pieces (if over then over_line d (content_from d (owner_at d i c) c y) else map OnLine (marks d.config)))
          (flat_map stretch_pieces (if over then over_line d (content_from other (owner_at d i c) c y) else map OnLine (marks other.config)))
      in_case true y = alike-over (content_from d (owner_at d i c) c y) (content_from other (owner_at d i c) c y) (alike-from (owner_at d i c) c y)
      in_case false y =
          ap plain (pieces-on_line (marks d.config)) ∙ alike-segment (position_of (i, c)) (d.widths c) ∙ ap plain (sym (pieces-on_line (marks other.config)))

  alike-column : (i c : ℕ) → AreAlike (rule_pieces d i c) (rule_pieces other i c)
  alike-column i c =
      ap plain (parts d i c)
      ∙ both-alike (crossing_pieces d i c) (crossing_pieces other i c) (over_pieces d i c) (over_pieces other i c) (alike-crossing i c) (alike-stretch i c)
      ∙ ap plain (sym (parts other i c))

  alike-rule : (i : ℕ) → AreAlike (flat_map stretch_pieces (rule_line d i)) (flat_map stretch_pieces (rule_line other i))
  alike-rule i =
      ap plain (all-pieces d i)
      ∙ both-alike (flat_map (rule_pieces d i) (range_with_len 0 d.shape.1)) (flat_map (rule_pieces other i) (range_with_len 0 d.shape.1))
      (crossing_pieces d i d.shape.1) (crossing_pieces other i d.shape.1)
      (alike-joined uncolored (rule_pieces d i) (rule_pieces other i) (alike-column i) (range_with_len 0 d.shape.1))
      (alike-crossing i d.shape.1)
      ∙ ap plain (sym (all-pieces other i))

  -- ---- all lines

  abbrev plain_line : DrawnLine → List Piece
  plain_line line = map uncolored (pieces_of line)

  alike-rules : (i : ℕ) → map plain_line (rule_lines d i) ≡ map plain_line (rule_lines other i)
  alike-rules i = in_case (draws_horizontal d i)
    where
      in_case : (line : Bool) → map plain_line (if line then RuleLine (rule_line d i) ∷ [] else []) ≡ map plain_line (if line then RuleLine (rule_line other i) ∷ [] else [])
      in_case true = ap (λ pieces. pieces ∷ []) (alike-rule i)
      in_case false = refl

  alike-row : (r : ℕ) → map plain_line (row_lines d r) ≡ map plain_line (row_lines other r)
  alike-row r =
      alike-append plain_line (rule_lines d r) (rule_lines other r)
      (map (λ k. TextLine (text_line d r k)) (range_with_len 0 (d.heights r))) (map (λ k. TextLine (text_line other r k)) (range_with_len 0 (d.heights r)))
      (alike-rules r)
      (alike-mapped plain_line (λ k. TextLine (text_line d r k)) (λ k. TextLine (text_line other r k)) (alike-text r) (range_with_len 0 (d.heights r)))

  alike-lines : map plain_line (drawn_lines d) ≡ map plain_line (drawn_lines other)
  alike-lines =
      alike-append plain_line (flat_map (row_lines d) (range_with_len 0 d.shape.0)) (flat_map (row_lines other) (range_with_len 0 d.shape.0))
      (rule_lines d d.shape.0) (rule_lines other d.shape.0)
      (alike-joined plain_line (row_lines d) (row_lines other) alike-row (range_with_len 0 d.shape.0))
      (alike-rules d.shape.0)

-- of two drawings that differ in colours alone
pub same-uncolored : (d e : Drawing) → AreAlikeButColors d e →
    map (λ line. map uncolored (pieces_of line)) (drawn_lines d) ≡ map (λ line. map uncolored (pieces_of line)) (drawn_lines e)
same-uncolored d e alike =
    alike-lines d e.config e.color
    ∙ ap (λ drawing. map (λ line. map uncolored (pieces_of line)) (drawn_lines drawing)) (λ i. record {
      config = sym alike.config i;
      widths = alike.widths i;
      heights = alike.heights i;
      shape = alike.shape i;
      lines = alike.lines i;
      color = e.color;
    })
