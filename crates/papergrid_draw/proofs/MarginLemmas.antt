-- Which line of a picture is which, with its margins.
use Rattle.std.proofs.Common.{◌≡◌, ◌∙◌, ap, refl, sym, inl, inr, ℕ, zero, suc, ◌+◌, ◌-◌, ◌<◌, ◌⊎◌, Bool, true, false, List, [], ◌∷◌, ◌++◌, None, Option, Some, length, map, replicate, arith}
use Rattle.std.specs.Prelude.{◌==◌, if◌then◌else◌, min, slice_get}
use Rattle.std.specs.List.{enumerate_from}
use Rattle.std.specs.Option.{option_map}
use Rattle.std.proofs.lemmas.Bool.{eqb-true}
use Rattle.std.proofs.lemmas.List.{append-nil, length-append, length-replicate}
use Rattle.std.proofs.lemmas.Option.{none-some, slice_get-map}
use Rattle.papergrid_values.specs.declared.direction.Direction.TheVariants.{Rows}
use Rattle.papergrid_values.specs.declared.indent.Indent.{Indent}
use Rattle.papergrid_values.specs.declared.offset.Offset.{Offset}
use Rattle.papergrid_values.specs.declared.offset.Offset.TheVariants.{Start, End}
use Rattle.papergrid_layout.specs.Places.{total_along}
use Rattle.papergrid_draw.specs.Bytes.{colored, line_bytes, pieces_bytes}
use Rattle.papergrid_draw.specs.Drawings.{Drawing, layout_of}
use Rattle.papergrid_draw.specs.Drawn.{DrawnLine, drawn_lines}
use Rattle.papergrid_draw.specs.Margins.{beside, is_beside, margin_line, printed_lines, whole_width, with_margins}
use Rattle.papergrid_draw.specs.Pieces.{Padding, fill, fill_text}
use Rattle.papergrid_draw.specs.ForProofs.Sheets.{left_margin_at, margined, right_margin_at}
use Rattle.papergrid_draw.proofs.CountLemmas.{length-margined}
use Rattle.papergrid_draw.proofs.DrawnLemmas.{get-left, get-right}
use Rattle.papergrid_draw.proofs.PenLemmas.{fill_is}
use Rattle.papergrid_draw.proofs.PrinterLemmas.{bottom_lines, top_lines}

-- ---- elements by their numbers

get-repeated : {X : Type 0} (n k : ℕ) (x : X) → k < n → slice_get (replicate n x) k ≡ Some x
get-repeated zero k x below = absurd (omega arith)
get-repeated (suc n) zero x below = refl
get-repeated (suc n) (suc k) x below = get-repeated n k x (omega arith)

get-numbered : {X : Type 0} (n m k : ℕ) (xs : List X) (x : X) → m ≡ n + k → slice_get xs k ≡ Some x → slice_get (enumerate_from n xs) k ≡ Some (m, x)
get-numbered n m k [] x at is = absurd (none-some x is)
get-numbered n m zero (y ∷ xs) x at is =
    ap (option_map (λ z. (n, z))) is ∙ ap (λ i. Some (i, x)) (let e : n ≡ m = omega arith in e)
get-numbered n m (suc k) (y ∷ xs) x at is = get-numbered (n + 1) m k xs x (omega arith) is

module _ (d : Drawing) where
  abbrev middle : List (List ℕ)
  middle = margined d 0 (drawn_lines d)

  -- ---- above, beside and below

  pub margin-above : (k : ℕ) → k < d.config.margin.top.size → slice_get (printed_lines d) k
      ≡ Some (margin_line d.config.margin.top d.config.margin_color.top d.config.margin_offset.top (whole_width d))
  margin-above k below =
      let line : List ℕ = margin_line d.config.margin.top d.config.margin_color.top d.config.margin_offset.top (whole_width d) in
      get-left (top_lines d ++ middle) (bottom_lines d) k line
      (get-left (top_lines d) middle k line (get-repeated d.config.margin.top.size k line below))

  get-margined : (y : ℕ) (line : DrawnLine) → slice_get (drawn_lines d) y ≡ Some line → slice_get middle y ≡ Some (with_margins d (y, line_bytes line))
  get-margined y line is =
      slice_get-map (with_margins d) (enumerate_from 0 (map line_bytes (drawn_lines d))) y
      ∙ ap (option_map (with_margins d))
      (get-numbered 0 y y (map line_bytes (drawn_lines d)) (line_bytes line) (omega arith)
      (slice_get-map line_bytes (drawn_lines d) y ∙ ap (option_map line_bytes) is))

  pub margin-beside : (y : ℕ) (line : DrawnLine) → slice_get (drawn_lines d) y ≡ Some line →
      slice_get (printed_lines d) (d.config.margin.top.size + y) ≡ Some (with_margins d (y, line_bytes line))
  margin-beside y line is =
      let at : d.config.margin.top.size + y ≡ length (top_lines d) + y = ap (λ n. n + y) (sym (length-replicate d.config.margin.top.size _)) in
      get-left (top_lines d ++ middle) (bottom_lines d) (d.config.margin.top.size + y) (with_margins d (y, line_bytes line))
      (get-right (top_lines d) middle (d.config.margin.top.size + y) y at ∙ get-margined y line is)

  pub margin-below : (k : ℕ) → k < d.config.margin.bottom.size →
      slice_get (printed_lines d) (d.config.margin.top.size + (total_along (layout_of d) Rows + k))
      ≡ Some (margin_line d.config.margin.bottom d.config.margin_color.bottom d.config.margin_offset.bottom (whole_width d))
  margin-below k below =
      let line : List ℕ = margin_line d.config.margin.bottom d.config.margin_color.bottom d.config.margin_offset.bottom (whole_width d) in
      let top : length (top_lines d) ≡ d.config.margin.top.size = length-replicate d.config.margin.top.size _ in
      let both : length (top_lines d ++ middle) ≡ length (top_lines d) + length middle = length-append (top_lines d) middle in
      let count : length middle ≡ total_along (layout_of d) Rows = length-margined d in
      let at : d.config.margin.top.size + (total_along (layout_of d) Rows + k) ≡ length (top_lines d ++ middle) + k = omega arith in
      get-right (top_lines d ++ middle) (bottom_lines d) (d.config.margin.top.size + (total_along (layout_of d) Rows + k)) k at
      ∙ get-repeated d.config.margin.bottom.size k line below

-- ---- the columns of a line above or below

uncolored-fill : (character n : ℕ) → pieces_bytes (fill Padding character n None) ≡ fill_text character n
uncolored-fill character n = fill_is Padding character n None ∙ in_case (n == 0) refl
  where
    in_case : (none : Bool) → (n == 0) ≡ none → (if none then [] else colored None (fill_text character n)) ≡ fill_text character n
    in_case true is = ap (fill_text character) (sym (eqb-true n 0 is))
    in_case false is = append-nil (fill_text character n)

pub margin-columns : (indent : Indent) (offset : Offset) (columns : ℕ) → (blanks : ℕ) × (rest : ℕ) × (blanks + rest ≡ columns)
    × ((margin_line indent None offset columns ≡ fill_text 32 blanks ++ fill_text indent.fill rest)
    ⊎ (margin_line indent None offset columns ≡ fill_text indent.fill rest ++ fill_text 32 blanks))
margin-columns indent (Start k) columns = (
  min k columns,
  columns - min k columns,
  omega arith,
  inl (ap (λ text. fill_text 32 (min k columns) ++ text) (uncolored-fill indent.fill (columns - min k columns))),
)
margin-columns indent (End k) columns = (
  min k columns,
  columns - min k columns,
  omega arith,
  inr (ap (λ text. text ++ fill_text 32 (min k columns)) (uncolored-fill indent.fill (columns - min k columns))),
)

-- ---- no margins

beside-none : (indent : Indent) (color : Option (List ℕ × List ℕ)) (offset : Offset) (lines y : ℕ) → indent.size ≡ 0 → beside indent color offset lines y ≡ []
beside-none indent color offset lines y none =
    ap (λ n. if is_beside offset y lines then pieces_bytes (fill Padding indent.fill n color) else fill_text 32 n) none
    ∙ in_case (is_beside offset y lines)
  where
    in_case : (within : Bool) → (if within then pieces_bytes (fill Padding indent.fill 0 color) else fill_text 32 0) ≡ []
    in_case true = refl
    in_case false = refl

numbered-plain : (f : ℕ × List ℕ → List ℕ) → ((line : ℕ × List ℕ) → f line ≡ line.1) → (n : ℕ) (lines : List (List ℕ)) → map f (enumerate_from n lines) ≡ lines
numbered-plain f plain n [] = refl
numbered-plain f plain n (line ∷ lines) = λ i. plain (n, line) i ∷ numbered-plain f plain (n + 1) lines i

pub margins-none : (d : Drawing) → d.config.margin.top.size ≡ 0 → d.config.margin.bottom.size ≡ 0 → d.config.margin.left.size ≡ 0 →
    d.config.margin.right.size ≡ 0 → printed_lines d ≡ map line_bytes (drawn_lines d)
margins-none d top bottom left right =
    let above : top_lines d ≡ [] =
    ap (λ n. replicate n (margin_line d.config.margin.top d.config.margin_color.top d.config.margin_offset.top (whole_width d))) top in
    let below : bottom_lines d ≡ [] =
    ap (λ n. replicate n (margin_line d.config.margin.bottom d.config.margin_color.bottom d.config.margin_offset.bottom (whole_width d))) bottom in
    let plain : (line : ℕ × List ℕ) → with_margins d line ≡ line.1 = λ line.
    (let before : left_margin_at d line.0 ≡ [] = beside-none d.config.margin.left d.config.margin_color.left d.config.margin_offset.left _ line.0 left in
    let after : right_margin_at d line.0 ≡ [] = beside-none d.config.margin.right d.config.margin_color.right d.config.margin_offset.right _ line.0 right in
    (λ i. (before i ++ line.1) ++ after i) ∙ append-nil line.1) in
    (λ i. (above i ++ numbered-plain (with_margins d) plain 0 (map line_bytes (drawn_lines d)) i) ++ below i)
    ∙ append-nil (map line_bytes (drawn_lines d))
