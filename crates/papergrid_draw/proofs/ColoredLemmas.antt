-- The bytes of lines as blocks of one colour each, and as plain texts where there is no colour.
use Rattle.std.proofs.Common.{◌≡◌, ◌∙◌, ap, refl, subst, sym, ℕ, Bool, true, false, cond, List, [], ◌∷◌, ◌++◌, Option, Some, None, append-nil, append_assoc, get_or, map}
use Rattle.std.specs.Prelude.{All, flat_map}
use Rattle.std.specs.Option.{option_eq, option_or}
use Rattle.std.proofs.lemmas.List.Concat.{flat_map-append}
use Rattle.std.proofs.lemmas.List.Elements.{All-head, All-tail}
use Rattle.papergrid_values.specs.Colors.{same_texts}
use Rattle.papergrid_config.proofs.SameLemmas.{exact_color, exact_option}
use Rattle.papergrid_draw.specs.Bytes.{colored, line_bytes, mark_bytes, piece_bytes, pieces_bytes, prefix_of, stretches_bytes, suffix_of, switch, used_at_end}
use Rattle.papergrid_draw.specs.Colored.{AreInBlocks, Ink, inks_of, piece_ink, stretch_inks}
use Rattle.papergrid_draw.specs.Drawn.{DrawnLine, OnLine, Over, RuleLine, Stretch, TextLine}
use Rattle.papergrid_draw.specs.Laws.{pieces_of, stretch_pieces}
use Rattle.papergrid_draw.specs.Pieces.{Piece}
use Rattle.papergrid_draw.specs.Separated.{pieces_text}

abbrev Color : Type 0
Color = Option (List ℕ × List ℕ)

-- ---- blocks, from the right

abbrev ColorBlock : Type 0
ColorBlock = Color × List (List ℕ)

abbrev joined : List (List ℕ) → List ℕ
joined texts = flat_map (λ text. text) texts

abbrev bytes_of : List ColorBlock → List ℕ
bytes_of blocks = flat_map (λ block. colored block.0 (joined block.1)) blocks

abbrev inks_in : List ColorBlock → List Ink
inks_in blocks = flat_map (λ block. map (λ text. (block.0, text)) block.1) blocks

-- in a colour that has begun stand some texts; then come its end and further blocks
record GoOn (used : Color) (inks : List Ink) (bytes : List ℕ) : Type 0 where
  first : List (List ℕ)
  blocks : List ColorBlock
  written : bytes ≡ joined first ++ (suffix_of used ++ bytes_of blocks)
  texts : map (λ text. (used, text)) first ++ inks_in blocks ≡ inks

around : (a b c d : List ℕ) → a ++ (b ++ (c ++ d)) ≡ ((a ++ b) ++ c) ++ d
around a b c d = simp append_assoc

-- with the beginning of the colour before them, they are a block too
opened : (used : Color) (inks : List Ink) (bytes : List ℕ) (on : GoOn used inks bytes) →
    prefix_of used ++ bytes ≡ bytes_of ((used, on.first) ∷ on.blocks)
opened used inks bytes on =
    ap (λ more. prefix_of used ++ more) on.written
    ∙ around (prefix_of used) (joined on.first) (suffix_of used) (bytes_of on.blocks)

go-end : (used : Color) → GoOn used [] (suffix_of used)
go-end used = record { first = []; blocks = []; written = sym (append-nil (suffix_of used)); texts = refl }

module _ (used : Color) (inks : List Ink) (bytes : List ℕ) (on : GoOn used inks bytes) where
  go-blocks : AreInBlocks inks (prefix_of used ++ bytes)
  go-blocks = record { blocks = (used, on.first) ∷ on.blocks; written = opened used inks bytes on; texts = on.texts }

  -- one more text of the colour
  go-text : (text : List ℕ) → GoOn used ((used, text) ∷ inks) (text ++ bytes)
  go-text text = record {
    first = text ∷ on.first;
    blocks = on.blocks;
    written = ap (λ more. text ++ more) on.written ∙ sym (append_assoc text (joined on.first) (suffix_of used ++ bytes_of on.blocks));
    texts = ap (λ more. (used, text) ∷ more) on.texts;
  }

  -- a text in a colour of its own
  go-own : (own : List ℕ × List ℕ) (text : List ℕ) →
      GoOn used ((Some own, text) ∷ inks) ((suffix_of used ++ colored (Some own) text ++ prefix_of used) ++ bytes)
  go-own own text = record {
    first = [];
    blocks = (Some own, text ∷ []) ∷ (used, on.first) ∷ on.blocks;
    written =
        three (suffix_of used) (colored (Some own) text) (prefix_of used) bytes
        ∙ ap (λ more. suffix_of used ++ (colored (Some own) text ++ more)) (opened used inks bytes on)
        ∙ ap (λ it. suffix_of used ++ (colored (Some own) it ++ bytes_of ((used, on.first) ∷ on.blocks))) (sym (append-nil text));
    texts = ap (λ more. (Some own, text) ∷ more) on.texts;
  }
    where
      three : (a b c d : List ℕ) → ((a ++ b) ++ c) ++ d ≡ a ++ (b ++ (c ++ d))
      three a b c d = simp append_assoc

  go-mark : (piece : Piece) (own : Color) → piece.color ≡ used →
      GoOn used ((option_or own used, piece.text) ∷ inks) (mark_bytes (record { piece = piece; own = own }) ++ bytes)
  go-mark piece None same = go-text piece.text
  go-mark piece (Some own) same =
      subst (λ color. GoOn used ((Some own, piece.text) ∷ inks)
      ((suffix_of color ++ colored (Some own) piece.text ++ prefix_of color) ++ bytes))
      (sym same) (go-own own piece.text)

  -- after what switches to the colour from another
  go-switch : (before : Color) → GoOn before inks (switch before used ++ bytes)
  go-switch before = in_case (option_eq same_texts before used) refl
    where
      in_case : (same : Bool) → option_eq same_texts before used ≡ same →
          GoOn before inks (cond same [] (suffix_of before ++ prefix_of used) ++ bytes)
      in_case true is = subst (λ color. GoOn color inks bytes) (sym (exact_option same_texts exact_color before used is)) on
      in_case false is = record {
        first = [];
        blocks = (used, on.first) ∷ on.blocks;
        written = append_assoc (suffix_of before) (prefix_of used) bytes ∙ ap (λ more. suffix_of before ++ more) (opened used inks bytes on);
        texts = on.texts;
      }

-- ---- pieces one by one

blocks-pieces : (pieces : List Piece) (inks : List Ink) (bytes : List ℕ) → AreInBlocks inks bytes →
    AreInBlocks (map piece_ink pieces ++ inks) (pieces_bytes pieces ++ bytes)
blocks-pieces [] inks bytes more = more
blocks-pieces (piece ∷ pieces) inks bytes more =
    let rest : AreInBlocks (map piece_ink pieces ++ inks) (pieces_bytes pieces ++ bytes) = blocks-pieces pieces inks bytes more in
    record {
      blocks = (piece.color, piece.text ∷ []) ∷ rest.blocks;
      written =
          append_assoc (piece_bytes piece) (pieces_bytes pieces) bytes
          ∙ ap (λ later. piece_bytes piece ++ later) rest.written
          ∙ ap (λ text. colored piece.color text ++ bytes_of rest.blocks) (sym (append-nil piece.text));
      texts = ap (λ later. piece_ink piece ∷ later) rest.texts;
    }

go-over : (used : Color) (pieces : List Piece) (inks : List Ink) (bytes : List ℕ) → GoOn None inks bytes →
    GoOn used (map piece_ink pieces ++ inks) ((suffix_of used ++ pieces_bytes pieces) ++ bytes)
go-over used pieces inks bytes on =
    let all : AreInBlocks (map piece_ink pieces ++ inks) (pieces_bytes pieces ++ bytes) =
    blocks-pieces pieces inks bytes (go-blocks None inks bytes on) in
    record {
      first = [];
      blocks = all.blocks;
      written = append_assoc (suffix_of used) (pieces_bytes pieces) bytes ∙ ap (λ more. suffix_of used ++ more) all.written;
      texts = all.texts;
    }

-- ---- lines

abbrev rest_of : Color → List Stretch → List ℕ
rest_of used stretches = stretches_bytes used stretches ++ suffix_of (used_at_end used stretches)

go-stretches : (used : Color) (stretches : List Stretch) → GoOn used (flat_map stretch_inks stretches) (rest_of used stretches)
go-stretches used [] = go-end used
go-stretches used (OnLine mark ∷ more) =
    let color : Color = mark.piece.color in
    let inks : List Ink = flat_map stretch_inks more in
    let marked : GoOn color ((option_or mark.own color, mark.piece.text) ∷ inks) (mark_bytes mark ++ rest_of color more) =
    go-mark color inks (rest_of color more) (go-stretches color more) mark.piece mark.own refl in
    subst (λ bytes. GoOn used ((option_or mark.own color, mark.piece.text) ∷ inks) bytes)
    (around (switch used color) (mark_bytes mark) (stretches_bytes color more) (suffix_of (used_at_end color more)))
    (go-switch color ((option_or mark.own color, mark.piece.text) ∷ inks) (mark_bytes mark ++ rest_of color more) marked used)
go-stretches used (Over pieces ∷ more) =
    subst (λ bytes. GoOn used (map piece_ink pieces ++ flat_map stretch_inks more) bytes)
    (sym (append_assoc (suffix_of used ++ pieces_bytes pieces) (stretches_bytes None more) (suffix_of (used_at_end None more))))
    (go-over used pieces (flat_map stretch_inks more) (rest_of None more) (go-stretches None more))

line-blocks : (line : DrawnLine) → AreInBlocks (inks_of line) (line_bytes line)
line-blocks (TextLine pieces) =
    let all : AreInBlocks (map piece_ink pieces ++ []) (pieces_bytes pieces ++ []) =
    blocks-pieces pieces [] [] (record { blocks = []; written = refl; texts = refl }) in
    subst (λ inks. AreInBlocks inks (pieces_bytes pieces)) (append-nil (map piece_ink pieces))
    (subst (AreInBlocks (map piece_ink pieces ++ [])) (append-nil (pieces_bytes pieces)) all)
line-blocks (RuleLine stretches) =
    go-blocks None (flat_map stretch_inks stretches) (rest_of None stretches) (go-stretches None stretches)

-- the bytes of each line are blocks
pub all-blocks : (lines : List DrawnLine) → All (λ line. AreInBlocks (inks_of line) (line_bytes line)) lines
all-blocks lines k line below = line-blocks (get_or lines k line)

-- ---- no colour

abbrev IsPlain : Ink → Type 0
IsPlain ink = ink.0 ≡ None

neither : (own color : Color) → option_or own color ≡ None → (own ≡ None) × (color ≡ None)
neither None color is = (refl, is)
neither (Some own) color is = cc

plain-pieces : (pieces : List Piece) (inks : List Ink) → All IsPlain (map piece_ink pieces ++ inks) →
    (pieces_bytes pieces ≡ pieces_text pieces) × All IsPlain inks
plain-pieces [] inks all = (refl, all)
plain-pieces (piece ∷ pieces) inks all =
    let none : piece.color ≡ None = All-head IsPlain (piece_ink piece) (map piece_ink pieces ++ inks) all in
    let rest : (pieces_bytes pieces ≡ pieces_text pieces) × All IsPlain inks =
    plain-pieces pieces inks (All-tail IsPlain (piece_ink piece) (map piece_ink pieces ++ inks) all) in (
      (λ i. colored (none i) piece.text ++ rest.0 i) ∙ ap (λ text. text ++ pieces_text pieces) (append-nil piece.text),
      rest.1,
    )

plain-stretches : (stretches : List Stretch) → All IsPlain (flat_map stretch_inks stretches) →
    rest_of None stretches ≡ pieces_text (flat_map stretch_pieces stretches)
plain-stretches [] all = refl
plain-stretches (OnLine mark ∷ more) all =
    let inks : List Ink = flat_map stretch_inks more in
    let ink : Ink = (option_or mark.own mark.piece.color, mark.piece.text) in
    let none : (mark.own ≡ None) × (mark.piece.color ≡ None) = neither mark.own mark.piece.color (All-head IsPlain ink inks all) in
    (λ i. ((switch None (none.1 i) ++ mark_bytes (record { piece = record mark.piece { color = none.1 i }; own = none.0 i }))
    ++ stretches_bytes (none.1 i) more) ++ suffix_of (used_at_end (none.1 i) more))
    ∙ append_assoc mark.piece.text (stretches_bytes None more) (suffix_of (used_at_end None more))
    ∙ ap (λ bytes. mark.piece.text ++ bytes) (plain-stretches more (All-tail IsPlain ink inks all))
plain-stretches (Over pieces ∷ more) all =
    let both : (pieces_bytes pieces ≡ pieces_text pieces) × All IsPlain (flat_map stretch_inks more) =
    plain-pieces pieces (flat_map stretch_inks more) all in
    append_assoc (pieces_bytes pieces) (stretches_bytes None more) (suffix_of (used_at_end None more))
    ∙ (λ i. both.0 i ++ plain-stretches more both.1 i)
    ∙ sym (flat_map-append (λ (piece : Piece). piece.text) pieces (flat_map stretch_pieces more))

line-plain : (line : DrawnLine) → All IsPlain (inks_of line) → line_bytes line ≡ pieces_text (pieces_of line)
line-plain (TextLine pieces) all =
    (plain-pieces pieces [] (subst (All IsPlain) (sym (append-nil (map piece_ink pieces))) all)).0
line-plain (RuleLine stretches) all = plain-stretches stretches all

-- where no text of a line has a colour, its bytes are the texts alone
pub all-plain : (lines : List DrawnLine) →
    All (λ line. All (λ ink. ink.0 ≡ None) (inks_of line) → line_bytes line ≡ pieces_text (pieces_of line)) lines
all-plain lines k line below = line-plain (get_or lines k line)
