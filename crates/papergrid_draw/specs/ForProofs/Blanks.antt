-- Texts of one line that stand between blanks alone.
use Rattle.std.specs.Prelude.{◌≡◌, None, false}
use Rattle.papergrid_draw.specs.Contents as contents
use Rattle.papergrid_draw.specs.declared.blanks.Blanks.{Blanks}

-- a look fills with so many blanks without colours, has no line above a text, and trims nothing
pub record IsBetweenBlanks (look : contents.Look) (blanks : Blanks) : Type 0 where
  pub left : look.padding.left.size ≡ blanks.left
  pub right : look.padding.right.size ≡ blanks.right
  pub left_fill : look.padding.left.fill ≡ 32
  pub right_fill : look.padding.right.fill ≡ 32
  pub left_color : look.padding_color.left ≡ None
  pub right_color : look.padding_color.right ≡ None
  pub justification : look.justification ≡ 32
  pub justification_color : look.justification_color ≡ None
  pub top : look.padding.top.size ≡ 0
  pub line : look.formatting.horizontal_trim ≡ false
  pub lines : look.formatting.vertical_trim ≡ false
