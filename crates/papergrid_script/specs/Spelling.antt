-- How the lines of a script are spelled, and what they say.
use Rattle.std.specs.Prelude.{◌≡◌, ◌≢◌, ◌⊎◌, ℕ, ◌<◌, ◌^◌, true, IsUtf8, List, [], ◌∷◌, ◌++◌, None, Some, length, codes}
use Rattle.std.specs.Char.{IsScalar, encode_utf8}
use Rattle.std.specs.Str.{all_ascii_digits}
use Rattle.std.specs.Str.Parse.{digits_value}
use Rattle.papergrid_values.specs.declared.entity.Entity.{Entity}
use Rattle.papergrid_values.specs.declared.entity.Entity.TheVariants as entities
use Rattle.papergrid_values.specs.declared.indent.Indent.{Indent}
use Rattle.papergrid_values.specs.declared.position.Position.{Position}
use Rattle.papergrid_values.specs.declared.sides.Sides.{Sides}
use Rattle.papergrid_values.specs.Borders.{frame_with}
use Rattle.papergrid_values.specs.Lines.{horizontal_with, vertical_with}
use Rattle.papergrid_config.specs.declared.setting.Setting.{Setting}
use Rattle.papergrid_config.specs.declared.setting.Setting.TheVariants.{SetPadding, SetColumnSpan, SetRowSpan, SetBorders, InsertVerticalLine, InsertHorizontalLine, RemoveVerticalLine, RemoveHorizontalLine}
use Rattle.papergrid_values.specs.Compact.{spaces}
use Rattle.papergrid_script.specs.Texts.{newline, backslash}

-- what a line of a script says
pub data Said : Type 0 where
  Nothing : Said
  Columns : ℕ → Said
  Set : Setting → Said
  Row : Said
  Cell : List ℕ → Said

-- the byte of a space
abbrev pub space : ℕ
space = 32

-- the byte of a comma
abbrev pub comma : ℕ
comma = 44

-- one or more digits, of a number that fits 64 bits
pub record IsNumber (digits : List ℕ) (n : ℕ) : Type 0 where
  pub digits_alone : all_ascii_digits digits ≡ true
  pub some : 0 < length digits
  pub value : digits_value 10 digits ≡ n
  pub fits : n < 2 ^ 64

-- a row and a column: two numbers and a comma between them
abbrev pub IsPosition : List ℕ → Position → Type 0
IsPosition bytes position = (row : List ℕ) × (col : List ℕ) × IsNumber row position.row × IsNumber col position.col × (bytes ≡ row ++ comma ∷ col)

-- a star; a c or an r and a number; a row and a column
abbrev pub IsEntity : List ℕ → Entity → Type 0
IsEntity bytes entities.Global = bytes ≡ codes "*"
IsEntity bytes (entities.Column c) = (digits : List ℕ) × IsNumber digits c × (bytes ≡ codes "c" ++ digits)
IsEntity bytes (entities.Row r) = (digits : List ℕ) × IsNumber digits r × (bytes ≡ codes "r" ++ digits)
IsEntity bytes (entities.Cell r c) = IsPosition bytes (record { row = r; col = c })

-- so many spaces left, right, above and below: four numbers, and a space between each two
pub data AreSides : List ℕ → Sides Indent → Type 0 where
  Four : (left right top bottom : List ℕ) (l r t b : ℕ) → IsNumber left l → IsNumber right r → IsNumber top t → IsNumber bottom b
      → AreSides (left ++ space ∷ (right ++ space ∷ (top ++ space ∷ bottom))) (record { top = spaces t; bottom = spaces b; left = spaces l; right = spaces r })

-- one character
pub record IsCharacter (bytes : List ℕ) (c : ℕ) : Type 0 where
  pub scalar : IsScalar c
  pub spelled : bytes ≡ encode_utf8 c

-- a line that sets something, and what it sets
pub data IsSetting : List ℕ → Setting → Type 0 where
  Pad : (spelled rest : List ℕ) (entity : Entity) (sides : Sides Indent) → IsEntity spelled entity → AreSides rest sides
      → IsSetting (codes "pad " ++ (spelled ++ space ∷ rest)) (SetPadding entity sides)
  Colspan : (spelled digits : List ℕ) (position : Position) (n : ℕ) → IsPosition spelled position → IsNumber digits n
      → IsSetting (codes "colspan " ++ (spelled ++ space ∷ digits)) (SetColumnSpan position n)
  Rowspan : (spelled digits : List ℕ) (position : Position) (n : ℕ) → IsPosition spelled position → IsNumber digits n
      → IsSetting (codes "rowspan " ++ (spelled ++ space ∷ digits)) (SetRowSpan position n)
  Border : (x : List ℕ) (c : ℕ) → IsCharacter x c → IsSetting (codes "border " ++ x) (SetBorders (frame_with (Some c)))
  Vline : (digits x : List ℕ) (col c : ℕ) → IsNumber digits col → IsCharacter x c
      → IsSetting (codes "vline " ++ (digits ++ space ∷ x)) (InsertVerticalLine col (record (vertical_with None) { main = Some c }))
  Hline : (digits x : List ℕ) (row c : ℕ) → IsNumber digits row → IsCharacter x c
      → IsSetting (codes "hline " ++ (digits ++ space ∷ x)) (InsertHorizontalLine row (record (horizontal_with None) { main = Some c }))
  Novline : (digits : List ℕ) (col : ℕ) → IsNumber digits col → IsSetting (codes "novline " ++ digits) (RemoveVerticalLine col 0)
  Nohline : (digits : List ℕ) (row : ℕ) → IsNumber digits row → IsSetting (codes "nohline " ++ digits) (RemoveHorizontalLine row 0)

-- a spelled text and the text that it means. A backslash with an n is a newline, with a t a tab, with a backslash
-- one backslash, and each other byte is itself
pub data Means : List ℕ → List ℕ → Type 0 where
  Ended : Means [] []
  Plain : (b : ℕ) (spelled meant : List ℕ) → b ≢ backslash → Means spelled meant → Means (b ∷ spelled) (b ∷ meant)
  Newline : (spelled meant : List ℕ) → Means spelled meant → Means (backslash ∷ 110 ∷ spelled) (newline ∷ meant)
  Tab : (spelled meant : List ℕ) → Means spelled meant → Means (backslash ∷ 116 ∷ spelled) (9 ∷ meant)
  Backslash : (spelled meant : List ℕ) → Means spelled meant → Means (backslash ∷ backslash ∷ spelled) (backslash ∷ meant)

-- a line, and what it says
abbrev pub IsLine : List ℕ → Said → Type 0
IsLine bytes Nothing = bytes ≡ []
IsLine bytes (Columns n) = (digits : List ℕ) × IsNumber digits n × (bytes ≡ codes "columns " ++ digits)
IsLine bytes (Set setting) = IsSetting bytes setting
IsLine bytes Row = bytes ≡ codes "row"
IsLine bytes (Cell text) = ((bytes ≡ codes "cell") × (text ≡ [])) ⊎ ((spelled : List ℕ) × Means spelled text × (bytes ≡ codes "cell " ++ spelled))

-- a line of text, and what it says
abbrev pub Says : List ℕ → Said → Type 0
Says line s = IsUtf8 line × IsLine line s
