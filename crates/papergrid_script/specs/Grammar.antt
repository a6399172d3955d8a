-- How a line of a script is read. What it says is told by how it is spelled (`Spelling`); this is how that is computed.
use Rattle.std.specs.Prelude.{ℕ, ◌^◌, ◌&&◌, List, [], length, drop, Option, Some, None, option_map, ◌==◌, nat_lt, nat_eq, if◌then◌else◌, codes, bytes_eq}
use Rattle.std.specs.List.{starts_with, before_first, after_first, before_last, after_last, position_or_len}
use Rattle.std.specs.Str.{is_utf8, all_ascii_digits}
use Rattle.std.specs.Str.Parse.{digits_value}
use Rattle.papergrid_values.specs.Lines.{horizontal_with, vertical_with}
use Rattle.papergrid_values.specs.declared.horizontal_line.HorizontalLine.{HorizontalLine}
use Rattle.papergrid_values.specs.declared.vertical_line.VerticalLine.{VerticalLine}
use Rattle.papergrid_values.specs.Compact.{spaces}
use Rattle.papergrid_values.specs.declared.entity.Entity.{Entity}
use Rattle.papergrid_values.specs.declared.entity.Entity.TheVariants as entities
use Rattle.papergrid_values.specs.declared.indent.Indent.{Indent}
use Rattle.papergrid_values.specs.declared.position.Position.{Position}
use Rattle.papergrid_values.specs.declared.sides.Sides.{Sides}
use Rattle.papergrid_values.specs.Borders.{frame_with}
use Rattle.papergrid_values.specs.Positions as positions
use Rattle.papergrid_config.specs.declared.setting.Setting.{Setting}
use Rattle.papergrid_config.specs.declared.setting.Setting.TheVariants.{SetPadding, SetColumnSpan, SetRowSpan, SetBorders, InsertVerticalLine, InsertHorizontalLine, RemoveVerticalLine, RemoveHorizontalLine}
use Rattle.papergrid_text.specs.Text.{character_of}
use Rattle.papergrid_script.specs.Spelling.{Said, Nothing, Columns, Set, Row, Cell, comma, space}
use Rattle.papergrid_script.specs.Texts.{unescaped}

-- lines of one character, whose crossings and ends are not set
abbrev pub vertical_main : ℕ → VerticalLine ℕ
vertical_main c = record (vertical_with None) { main = Some c }

-- the same of a horizontal line
abbrev pub horizontal_main : ℕ → HorizontalLine ℕ
horizontal_main c = record (horizontal_with None) { main = Some c }

infixl 10 ◌>>=◌
-- the second step with what the first gave, where it gave something
abbrev pub ◌>>=◌ : {A B : Type 0} → Option A → (A → Option B) → Option B
None >>= f = None
(Some x) >>= f = f x

-- what stands before the first such byte, and what stands after it
abbrev pub parted_at : ℕ → List ℕ → Option (List ℕ × List ℕ)
parted_at byte bytes =
    if nat_lt (position_or_len (λ b. b == byte) bytes) (length bytes)
    then Some (before_first (λ b. b == byte) bytes, after_first (λ b. b == byte) bytes) else None

-- the same of the last such byte
abbrev pub parted_at_last : ℕ → List ℕ → Option (List ℕ × List ℕ)
parted_at_last byte bytes =
    if nat_lt (position_or_len (λ b. b == byte) bytes) (length bytes)
    then Some (before_last (λ b. b == byte) bytes, after_last (λ b. b == byte) bytes) else None

-- what the two give of the parts around the first such byte, where both give something
abbrev pub pair_at : {A B : Type 0} → ℕ → (List ℕ → Option A) → (List ℕ → Option B) → List ℕ
    → Option (A × B)
pair_at byte first second spelled = do
  parts ← parted_at byte spelled
  before ← first parts.0
  after ← second parts.1
  Some (before, after)

-- ---- numbers and entities

-- one or more digits, of a value that fits 64 bits
unfoldable pub number_said : List ℕ → Option ℕ
number_said digits =
    if all_ascii_digits digits && nat_lt 0 (length digits) && nat_lt (digits_value 10 digits) (2 ^ 64)
    then Some (digits_value 10 digits) else None

-- a row and a column with a comma between them
unfoldable pub position_said : List ℕ → Option Position
position_said spelled = option_map positions.position_of (pair_at comma number_said number_said spelled)

-- a star, a c or r with a number, or a cell
unfoldable pub entity_said : List ℕ → Option Entity
entity_said spelled =
    if bytes_eq spelled (codes "*") then Some entities.Global
    else if starts_with nat_eq spelled (codes "c") then option_map entities.Column (number_said (drop 1 spelled))
    else if starts_with nat_eq spelled (codes "r") then option_map entities.Row (number_said (drop 1 spelled))
    else option_map (λ (position : Position). entities.Cell position.row position.col) (position_said spelled)

-- ---- paddings

-- four numbers of spaces: left, right, top and bottom
unfoldable pub sides_of : List ℕ → Option (Sides Indent)
sides_of spelled = do
  at_left ← parted_at space spelled
  at_right ← parted_at space at_left.1
  at_top ← parted_at space at_right.1
  left ← number_said at_left.0
  right ← number_said at_right.0
  top ← number_said at_top.0
  bottom ← number_said at_top.1
  Some (record { top = spaces top; bottom = spaces bottom; left = spaces left; right = spaces right })

-- an entity, and the four numbers
unfoldable pub padding_of : List ℕ → Option Setting
padding_of spelled = option_map (λ p. SetPadding p.0 p.1) (pair_at space entity_said sides_of spelled)

-- ---- spans

-- a position, and a number of columns or rows after it and a space
unfoldable pub position_and_count : List ℕ → Option (Position × ℕ)
position_and_count spelled = pair_at space position_said number_said spelled

-- ---- borders and lines

-- a number, and one character after it and a space
unfoldable pub number_and_character : List ℕ → Option (ℕ × ℕ)
number_and_character spelled = pair_at space number_said character_of spelled

-- ---- settings

-- a keyword, and what stands after it and a space
unfoldable pub keyword_setting : List ℕ → List ℕ → Option Setting
keyword_setting keyword rest =
    if bytes_eq keyword (codes "pad") then padding_of rest
    else if bytes_eq keyword (codes "colspan") then option_map (λ at. SetColumnSpan at.0 at.1) (position_and_count rest)
    else if bytes_eq keyword (codes "rowspan") then option_map (λ at. SetRowSpan at.0 at.1) (position_and_count rest)
    else if bytes_eq keyword (codes "border") then option_map (λ c. SetBorders (frame_with (Some c))) (character_of rest)
    else if bytes_eq keyword (codes "vline") then option_map (λ at. InsertVerticalLine at.0 (vertical_main at.1)) (number_and_character rest)
    else if bytes_eq keyword (codes "hline") then option_map (λ at. InsertHorizontalLine at.0 (horizontal_main at.1)) (number_and_character rest)
    else if bytes_eq keyword (codes "novline") then option_map (λ col. RemoveVerticalLine col 0) (number_said rest)
    else if bytes_eq keyword (codes "nohline") then option_map (λ row. RemoveHorizontalLine row 0) (number_said rest)
    else None

-- ---- lines of a script

-- a keyword, and what stands after it and a space
unfoldable pub keyword_says : List ℕ → List ℕ → Option Said
keyword_says keyword rest =
    if bytes_eq keyword (codes "cell") then option_map Cell (unescaped rest)
    else if bytes_eq keyword (codes "columns") then option_map Columns (number_said rest)
    else option_map Set (keyword_setting keyword rest)

-- what a line of text says: nothing, a row, a cell without a text, or by its keyword
unfoldable pub text_says : List ℕ → Option Said
text_says line =
    if bytes_eq line (codes "") then Some Nothing
    else if bytes_eq line (codes "row") then Some Row
    else if bytes_eq line (codes "cell") then Some (Cell [])
    else (parted_at space line >>= λ parts. keyword_says parts.0 parts.1)

-- what a line says, if it is text and says anything
unfoldable pub line_says : List ℕ → Option Said
line_says line = if is_utf8 line then text_says line else None
