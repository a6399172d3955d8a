-- The width of joined texts of which no two stand together without a separator between.
use Rattle.std.proofs.Common.{◌≡◌, ◌∙◌, ap, sym, refl, inl, inr, ℕ, zero, suc, ◌+◌, ◌<◌, ◌⊎◌, Bool, true, false, List, [], ◌∷◌, ◌++◌, Option, arith}
use Rattle.std.specs.Prelude.{◌==◌, if◌then◌else◌}
use Rattle.std.specs.List.{flat_map, range_with_len}
use Rattle.papergrid_text.specs.Separators.{IsSeparator}
use Rattle.papergrid_text.specs.Text.{width_of}
use Rattle.papergrid_text.proofs.JoinedLemmas.{IsSpelled, trimmed-spelled, utf8-spelled, width-before_separator, width-last, width-separators}
use Rattle.papergrid_text.proofs.Widths.{width_of-nil}
use Rattle.papergrid_draw.specs.Contents.{shown_line}
use Rattle.papergrid_draw.specs.Laws.{terminal_columns}
use Rattle.papergrid_draw.specs.Pieces.{Kind, Piece, fill, fill_text}
use Rattle.papergrid_draw.specs.Separated.{IsMeasuredLine, pieces_text}
use Rattle.papergrid_draw.proofs.BlockLemmas.{Line}
use Rattle.papergrid_draw.proofs.ContentLemmas.{columns-cons}

-- ---- pieces by what they consist of

-- a separator, once or more
pub record IsFill (piece : Piece) : Type 0 where
  pub character : ℕ
  pub count : ℕ
  pub separates : IsSeparator character
  pub some : 0 < count
  pub text : piece.text ≡ fill_text character count
  pub columns : piece.columns ≡ count

-- a text that is as wide as is said
pub record IsTold (text : List ℕ) (columns : ℕ) : Type 0 where
  pub spelled : IsSpelled text
  pub wide : columns ≡ width_of text

-- nothing, or what begins with a separator
abbrev pub Begins : List Piece → Type 0
Begins [] = Unit {0}
Begins (piece ∷ pieces) = IsFill piece

-- nothing, or what ends with a separator
abbrev pub Ends : List Piece → Type 0
Ends [] = Unit {0}
Ends (piece ∷ []) = IsFill piece
Ends (piece ∷ next ∷ pieces) = Ends (next ∷ pieces)

-- after each text comes a separator
abbrev pub AreSeparate : List Piece → Type 0
AreSeparate [] = Unit {0}
AreSeparate (piece ∷ pieces) = (IsFill piece ⊎ (IsTold piece.text piece.columns × Begins pieces)) × AreSeparate pieces

-- separators alone
abbrev pub AreFills : List Piece → Type 0
AreFills [] = Unit {0}
AreFills (piece ∷ pieces) = IsFill piece × AreFills pieces

-- ---- joined

pub fills-begin : (pieces : List Piece) → AreFills pieces → Begins pieces
fills-begin [] fills = tt
fills-begin (piece ∷ pieces) fills = fills.0

pub begin-append : (a b : List Piece) → Begins a → Begins b → Begins (a ++ b)
begin-append [] b first second = second
begin-append (piece ∷ a) b first second = first

pub separate-append : (a b : List Piece) → AreSeparate a → AreSeparate b → Begins b → AreSeparate (a ++ b)
separate-append [] b first second begins = second
separate-append (piece ∷ a) b first second begins = (
  elim first.0 [
    | inl fill ↦ inl fill
    | inr told ↦ inr (told.0, begin-append a b told.1 begins)
  ],
  separate-append a b first.1 second begins,
)

pub fills-separate : (a b : List Piece) → AreFills a → AreSeparate b → AreSeparate (a ++ b)
fills-separate [] b fills separate = separate
fills-separate (piece ∷ a) b fills separate = (inl fills.0, fills-separate a b fills.1 separate)

pub fills-append : (a b : List Piece) → AreFills a → AreFills b → AreFills (a ++ b)
fills-append [] b first second = second
fills-append (piece ∷ a) b first second = (first.0, fills-append a b first.1 second)

pub separate-fills : (pieces : List Piece) → AreFills pieces → AreSeparate pieces
separate-fills [] fills = tt
separate-fills (piece ∷ pieces) fills = (inl fills.0, separate-fills pieces fills.1)

pub fills-end : (pieces : List Piece) → AreFills pieces → Ends pieces
fills-end [] fills = tt
fills-end (piece ∷ []) fills = fills.0
fills-end (piece ∷ next ∷ pieces) fills = fills-end (next ∷ pieces) fills.1

end-cons : (piece : Piece) (pieces : List Piece) → (pieces ≡ [] → ⊥) → Ends pieces → Ends (piece ∷ pieces)
end-cons piece [] some ends = absurd (some refl)
end-cons piece (next ∷ pieces) some ends = ends

pub end-after : (a b : List Piece) → (b ≡ [] → ⊥) → Ends b → Ends (a ++ b)
end-after [] b some ends = ends
end-after (piece ∷ []) b some ends = end-cons piece b some ends
end-after (piece ∷ next ∷ a) b some ends = end-after (next ∷ a) b some ends

pub end-append : (a b : List Piece) → Ends a → Ends b → Ends (a ++ b)
end-append [] b first second = second
end-append (piece ∷ []) [] first second = first
end-append (piece ∷ []) (next ∷ b) first second = second
end-append (piece ∷ next ∷ a) b first second = end-append (next ∷ a) b first second

pub separate-after : (a b : List Piece) → AreSeparate a → Ends a → AreSeparate b → AreSeparate (a ++ b)
separate-after [] b first ends second = second
separate-after (piece ∷ []) b first ends second = (inl ends, second)
separate-after (piece ∷ next ∷ a) b first ends second = (first.0, separate-after (next ∷ a) b first.1 ends second)

-- what stands in column c of several, of which each but the first has to begin with a separator
pub record IsColumn (c : ℕ) (pieces : List Piece) : Type 0 where
  pub separate : AreSeparate pieces
  pub begins : 0 < c → Begins pieces

pub columns-separate : (f : ℕ → List Piece) (a n : ℕ) → ((c : ℕ) → c < a + n → IsColumn c (f c)) → IsColumn a (flat_map f (range_with_len a n))
columns-separate f a zero each = record { separate = tt; begins = λ _. tt }
columns-separate f a (suc n) each =
    let here = each a (omega arith) in
    let more = columns-separate f (a + 1) n (λ c below. each c (omega arith)) in
    let begins = more.begins (omega arith) in
    record {
      separate = separate-append (f a) (flat_map f (range_with_len (a + 1) n)) here.separate more.separate begins;
      begins = λ some. begin-append (f a) (flat_map f (range_with_len (a + 1) n)) (here.begins some) begins;
    }

-- ---- fills

-- so many characters fill a piece
pub fill-of : (piece : Piece) (character count : ℕ) → IsSeparator character → 0 < count → piece.text ≡ fill_text character count →
    piece.columns ≡ count → IsFill piece
fill-of piece character count separates some text columns = record {
  character = character;
  count = count;
  separates = separates;
  some = some;
  text = text;
  columns = columns;
}

fills-one_or_none : (none : Bool) (piece : Piece) → (none ≡ false → IsFill piece) → AreFills (if none then [] else (piece ∷ []))
fills-one_or_none true piece is = tt
fills-one_or_none false piece is = (is refl, tt)

pub some-count : (n : ℕ) → (n == 0) ≡ false → 0 < n
some-count zero none = cc
some-count (suc n) none = omega arith

pub fills-fill : (kind : Kind) (character n : ℕ) (color : Option (List ℕ × List ℕ)) → IsSeparator character → AreFills (fill kind character n color)
fills-fill kind character n color separates =
    let piece : Piece = record { kind = kind; text = fill_text character n; columns = n; color = color } in
    fills-one_or_none (n == 0) piece (λ some. fill-of piece character n separates (some-count n some) refl refl)

-- ---- texts

-- a text that is told by its bytes
pub told-of : (line : Line) → IsMeasuredLine line → IsTold line.0 line.1
told-of line is = record { spelled = utf8-spelled line.0 is.0; wide = is.1 }

-- and one that is shown without white space at its ends
pub shown-told : (trims : Bool) (line : Line) → IsMeasuredLine line → IsTold (shown_line trims line).0 (shown_line trims line).1
shown-told true line is = record { spelled = trimmed-spelled line.0; wide = refl }
shown-told false line is = told-of line is

-- ---- their width

-- a fill adds its columns, whatever comes after it
width-fill : (piece : Piece) (rest : List ℕ) → IsFill piece → width_of (piece.text ++ rest) ≡ piece.columns + width_of rest
width-fill piece rest is =
    ap (λ text. width_of (text ++ rest)) is.text
    ∙ width-separators is.character is.count rest is.separates
    ∙ ap (λ n. n + width_of rest) (sym is.columns)

-- a text adds its columns where nothing or a separator comes after it
width-text : (text : List ℕ) (columns : ℕ) (pieces : List Piece) → IsTold text columns → Begins pieces →
    width_of (text ++ pieces_text pieces) ≡ columns + width_of (pieces_text pieces)
width-text text columns [] told begins =
    let alone = width-last text in
    let none = width_of-nil in
    let wide = told.wide in
    omega arith
width-text text columns (piece ∷ pieces) told begins =
    let before : width_of (text ++ (fill_text begins.character begins.count ++ pieces_text pieces)) ≡ width_of text + (begins.count + width_of (pieces_text pieces)) =
    width-before_separator text begins.character begins.count (pieces_text pieces) told.spelled begins.separates begins.some in
    let joined : width_of (text ++ (piece.text ++ pieces_text pieces)) ≡ width_of (text ++ (fill_text begins.character begins.count ++ pieces_text pieces)) =
    ap (λ t. width_of (text ++ (t ++ pieces_text pieces))) begins.text in
    let own : width_of (piece.text ++ pieces_text pieces) ≡ piece.columns + width_of (pieces_text pieces) = width-fill piece (pieces_text pieces) begins in
    let many = begins.columns in
    let wide = told.wide in
    omega arith

-- the columns of all
pub width-pieces : (pieces : List Piece) → AreSeparate pieces → width_of (pieces_text pieces) ≡ terminal_columns pieces
width-pieces [] separate = width_of-nil
width-pieces (piece ∷ pieces) separate =
    let more = width-pieces pieces separate.1 in
    let all = columns-cons piece pieces in
    elim separate.0 [
      | inl is ↦ let own = width-fill piece (pieces_text pieces) is in omega arith
      | inr told ↦ let own = width-text piece.text piece.columns pieces told.0 told.1 in omega arith
    ]
