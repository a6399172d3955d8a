-- A cell as it is kept while it is drawn.
use Rattle.std.specs.Prelude.{◌≡◌, ◌++◌, ◌+◌, ◌<◌, ◌≤◌, ◌^◌, ℕ, Bool, List, Option, drop, length, reverse, take}
use Rattle.papergrid_draw.specs.Bytes.{colored}
use Rattle.papergrid_draw.specs.Contents as contents
use Rattle.papergrid_draw.specs.Contents.{above, block_width, from_text, shown_lines}
use Rattle.papergrid_draw.specs.ForProofs.Pens.{fill_bytes}

-- the lines up to the last that is not blank
abbrev pub to_text : List (List ℕ × ℕ) → List (List ℕ × ℕ)
to_text lines = reverse (from_text (reverse lines))

-- of the lines so many are shown, from this one on
pub record IsShownRange (trims : Bool) (lines : List (List ℕ × ℕ)) (first count : ℕ) : Type 0 where
  pub are : take count (drop first lines) ≡ shown_lines trims lines
  pub within : first + count ≤ length lines
  pub fits : first + count < 2 ^ 64

-- what is found of a block: from which line on how many are shown, how many stand above, and the greatest width
pub record IsFound (b : contents.Block) (first count lines_above width : ℕ) : Type 0 where
  pub shown : IsShownRange b.look.formatting.vertical_trim b.lines first count
  pub above_is : lines_above ≡ above b
  pub widest : width ≡ block_width b.look.formatting.horizontal_trim b.lines

-- the bytes of a line of a text between its paddings, with so much justification on both sides
abbrev pub filled_up : contents.Look → Option (List ℕ × List ℕ) → List ℕ → ℕ × ℕ → List ℕ
filled_up look color text beside =
    fill_bytes look.padding_color.left look.padding.left.fill look.padding.left.size
    ++ fill_bytes look.justification_color look.justification beside.0
    ++ colored color text
    ++ fill_bytes look.justification_color look.justification beside.1
    ++ fill_bytes look.padding_color.right look.padding.right.fill look.padding.right.size
