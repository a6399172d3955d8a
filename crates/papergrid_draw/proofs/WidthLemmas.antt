-- The text of each line of a drawn table is as wide as the table.
use Rattle.std.proofs.Common.{◌≡◌, ◌∙◌, inl, inr, ℕ, ◌<◌, get_or}
use Rattle.std.specs.Prelude.{All}
use Rattle.std.specs.List.{flat_map}
use Rattle.papergrid_values.specs.declared.direction.Direction.TheVariants.{Columns}
use Rattle.papergrid_text.specs.Text.{width_of}
use Rattle.papergrid_layout.specs.Places.{total_along}
use Rattle.papergrid_draw.specs.Drawings.{Drawing, layout_of}
use Rattle.papergrid_draw.specs.Drawn.{DrawnLine, drawn_lines, rule_line, text_line}
use Rattle.papergrid_draw.specs.Faults.{AllHaveRoom}
use Rattle.papergrid_draw.specs.Laws.{pieces_of, stretch_pieces}
use Rattle.papergrid_draw.specs.Separated.{AreApart, HasSeparators, IsHonest, pieces_text}
use Rattle.papergrid_draw.specs.Tiles.{IsTiled}
use Rattle.papergrid_draw.proofs.AfterLemmas.{rule-after, text-after}
use Rattle.papergrid_draw.proofs.BeforeLemmas.{rule-separate, text-separate}
use Rattle.papergrid_draw.proofs.DrawnLemmas.{All-drawn, all-wide}
use Rattle.papergrid_draw.proofs.WideLemmas.{AreSeparate, width-pieces}

module _ (d : Drawing) (tiled : IsTiled (layout_of d)) (honest : IsHonest d) (separated : HasSeparators d) (apart : AreApart d) where
  text-apart : (r k : ℕ) → r < d.shape.0 → AreSeparate (text_line d r k)
  text-apart r k row_in = elim apart [
    | inl before ↦ text-separate d honest separated before tiled r k row_in
    | inr after ↦ text-after d honest separated after tiled r k row_in
  ]

  line-apart : (i : ℕ) → AreSeparate (flat_map stretch_pieces (rule_line d i))
  line-apart i = elim apart [
    | inl before ↦ rule-separate d honest separated before tiled i
    | inr after ↦ rule-after d honest separated after tiled i
  ]

  abbrev IsApart : DrawnLine → Type 0
  IsApart line = AreSeparate (pieces_of line)

  all-apart : All IsApart (drawn_lines d)
  all-apart = All-drawn d IsApart text-apart line-apart

  -- each takes the columns that its pieces tell
  pub lines-wide : AllHaveRoom d → All (λ line. width_of (pieces_text (pieces_of line)) ≡ total_along (layout_of d) Columns) (drawn_lines d)
  lines-wide room = λ k line below.
      width-pieces (pieces_of (get_or (drawn_lines d) k line)) (all-apart k line below) ∙ all-wide d tiled room k line below
