-- How many lines a picture has, and how its bytes are cut into them.
use Rattle.std.proofs.Common.{◌≡◌, ◌≢◌, ◌∙◌, ◌⊎◌, inl, inr, ℕ, ◌+◌, ◌==◌, cond, List, [], ◌++◌, length, map, subst, sym, arith}
use Rattle.std.specs.List.{All, Contains, enumerate_from, join_with_byte, slice_split}
use Rattle.std.proofs.lemmas.Bool.{eq-eqb, ne_eqb}
use Rattle.std.proofs.lemmas.List.{length-append, length-map, length-replicate}
use Rattle.std.proofs.lemmas.List.Elements.{All-contains_itself}
use Rattle.std.proofs.lemmas.List.FromFn.{length-enumerate_from}
use Rattle.papergrid_values.specs.declared.direction.Direction.TheVariants.{Rows}
use Rattle.papergrid_text.specs.Text.{HasNoNewline}
use Rattle.papergrid_text.proofs.Splits.{only_split}
use Rattle.papergrid_layout.specs.Places.{total_along}
use Rattle.papergrid_draw.specs.Bytes.{line_bytes}
use Rattle.papergrid_draw.specs.Drawings.{Drawing, layout_of}
use Rattle.papergrid_draw.specs.Drawn.{drawn_lines, draws_horizontal, rule_lines}
use Rattle.papergrid_draw.specs.Faults.{whole_height}
use Rattle.papergrid_draw.specs.Margins.{printed, printed_lines}
use Rattle.papergrid_draw.specs.ForProofs.Pages.{row_start, text_start}
use Rattle.papergrid_draw.specs.ForProofs.Sheets.{margined}
use Rattle.papergrid_draw.proofs.PrinterLemmas.{bottom_lines, first_rows, length-first_rows, length-rule_lines, printed-none, printed-some, text-after, top_lines}

-- ---- how many there are

-- as many lines as the table is high
pub drawn-count : (d : Drawing) → length (drawn_lines d) ≡ total_along (layout_of d) Rows
drawn-count d =
    let n : ℕ = d.shape.0 in
    let both : length (drawn_lines d) ≡ length (first_rows d n) + length (rule_lines d n) =
    length-append (first_rows d n) (rule_lines d n) in
    let rows : length (first_rows d n) ≡ row_start d n = length-first_rows d n in
    let rule : length (rule_lines d n) ≡ cond (draws_horizontal d n) 1 0 = length-rule_lines d n in
    let after : text_start d n ≡ row_start d n + cond (draws_horizontal d n) 1 0 = text-after d n in
    let all : length (drawn_lines d) ≡ text_start d n = omega arith in
    all

pub length-margined : (d : Drawing) → length (margined d 0 (drawn_lines d)) ≡ total_along (layout_of d) Rows
length-margined d =
    length-map (enumerate_from 0 (map line_bytes (drawn_lines d))) _
    ∙ length-enumerate_from 0 (map line_bytes (drawn_lines d)) ∙ length-map (drawn_lines d) line_bytes ∙ drawn-count d

-- and with those of both margins
pub whole-count : (d : Drawing) → length (printed_lines d) ≡ whole_height d
whole-count d =
    let lines : List (List ℕ) = margined d 0 (drawn_lines d) in
    let above : length (top_lines d) ≡ d.config.margin.top.size = length-replicate d.config.margin.top.size _ in
    let below : length (bottom_lines d) ≡ d.config.margin.bottom.size = length-replicate d.config.margin.bottom.size _ in
    let first : length (top_lines d ++ lines) ≡ length (top_lines d) + length lines = length-append (top_lines d) lines in
    let last : length (printed_lines d) ≡ length (top_lines d ++ lines) + length (bottom_lines d) =
    length-append (top_lines d ++ lines) (bottom_lines d) in
    omega (arith, length-margined d)

-- ---- the bytes

pub picture-none : (d : Drawing) → (d.shape.0 ≡ 0) ⊎ (d.shape.1 ≡ 0) → printed d ≡ []
picture-none d (inl rows) = printed-none d (inl (eq-eqb d.shape.0 0 rows))
picture-none d (inr columns) = printed-none d (inr (eq-eqb d.shape.1 0 columns))

pub picture-joined : (d : Drawing) → d.shape.0 ≢ 0 → d.shape.1 ≢ 0 → printed d ≡ join_with_byte 10 (printed_lines d)
picture-joined d rows columns = printed-some d (ne_eqb d.shape.0 0 rows) (ne_eqb d.shape.1 0 columns)

-- a text that does not contain a line feed has none
plain-line : (line : List ℕ) → (Contains line 10 → ⊥) → HasNoNewline line
plain-line line none k other below =
    λ e. none (subst (Contains line) e (All-contains_itself line k other below))

-- where no line has a line feed, the picture is cut into its lines at line feeds
pub picture-cut-lines : (d : Drawing) → d.shape.0 ≢ 0 → d.shape.1 ≢ 0 → whole_height d ≢ 0 →
    All (λ line. Contains line 10 → ⊥) (printed_lines d) → slice_split (λ byte. byte == 10) (printed d) ≡ printed_lines d
picture-cut-lines d rows columns some fed = sym (only_split (printed d) (printed_lines d) (record {
  some = (let many : length (printed_lines d) ≡ whole_height d = whole-count d in omega arith);
  plain = λ k other below. plain-line _ (fed k other below);
  joined = sym (picture-joined d rows columns);
}))
