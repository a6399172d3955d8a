-- The lines of the styles, and their paddings. A line is given by four characters: of its left end, of the line itself, of where
-- a line between columns crosses it, and of its right end. `_` is for none.
use Rattle.std.specs.Prelude.{ℕ, if◌then◌else◌, Bool, List, Option, Some, None, codes, get_or, ◌==◌}
use Rattle.papergrid_values.specs.Borders.{frame_with}
use Rattle.papergrid_values.specs.declared.borders.Borders.{Borders}
use Rattle.papergrid_values.specs.declared.horizontal_line.HorizontalLine.{HorizontalLine}
use Rattle.papergrid_csv.specs.declared.style.Style.{Style}
use Rattle.papergrid_csv.specs.declared.style.Style.TheVariants.{Ascii, Blank, Dots, Extended, Markdown, Modern, Plain, Psql, Rounded, Rst, Sharp}

-- a part that a text tells at an index
abbrev pub part_told : List ℕ → ℕ → Option ℕ
part_told text index = if get_or text index 95 == 95 then None else Some (get_or text index 95)

-- a line across the table
abbrev pub line_told : List ℕ → HorizontalLine ℕ
line_told text = record {
  left = part_told text 0;
  main = part_told text 1;
  intersection = part_told text 2;
  right = part_told text 3;
}

-- a frame by its line at the top, the characters at the left, between columns and at the right of a text, and its line at
-- the bottom
abbrev pub frame_told : (top sides bottom : List ℕ) → Borders ℕ
frame_told top sides bottom = record (frame_with None) {
  top = part_told top 1;
  top_left = part_told top 0;
  top_right = part_told top 3;
  top_intersection = part_told top 2;
  bottom = part_told bottom 1;
  bottom_left = part_told bottom 0;
  bottom_right = part_told bottom 3;
  bottom_intersection = part_told bottom 2;
  vertical = part_told sides 1;
  left = part_told sides 0;
  right = part_told sides 2;
}

-- the same with a line between rows
abbrev pub ruled : List ℕ → Borders ℕ → Borders ℕ
ruled rule frame = record frame {
  horizontal = part_told rule 1;
  intersection = part_told rule 2;
  left_intersection = part_told rule 0;
  right_intersection = part_told rule 3;
}

-- the lines round the table, between its rows and between its columns
unfoldable pub style_frame : Style → Borders ℕ
style_frame Rounded = frame_told (codes "╭─┬╮") (codes "│││") (codes "╰─┴╯")
style_frame Sharp = frame_told (codes "┌─┬┐") (codes "│││") (codes "└─┴┘")
style_frame Ascii = ruled (codes "+-++") (frame_told (codes "+-++") (codes "|||") (codes "+-++"))
style_frame Modern = ruled (codes "├─┼┤") (frame_told (codes "┌─┬┐") (codes "│││") (codes "└─┴┘"))
style_frame Extended = ruled (codes "╠═╬╣") (frame_told (codes "╔═╦╗") (codes "║║║") (codes "╚═╩╝"))
style_frame Dots = ruled (codes ":.::") (frame_told (codes "....") (codes ":::") (codes ":.::"))
style_frame Psql = frame_told (codes "____") (codes "_|_") (codes "____")
style_frame Markdown = frame_told (codes "____") (codes "|||") (codes "____")
style_frame Rst = frame_told (codes "_= _") (codes "_ _") (codes "_= _")
style_frame Blank = frame_told (codes "____") (codes "_ _") (codes "____")
style_frame Plain = frame_with None

-- the line below the first row, which is a head or not
unfoldable pub style_head : Style → Bool → Option (HorizontalLine ℕ)
style_head Rounded is_head = if is_head then Some (line_told (codes "├─┼┤")) else None
style_head Sharp is_head = if is_head then Some (line_told (codes "├─┼┤")) else None
style_head Psql is_head = Some (line_told (codes "_-+_"))
style_head Markdown is_head = Some (line_told (codes "|-||"))
style_head Rst is_head = Some (line_told (codes "_= _"))
style_head style is_head = None

-- the frame whose crossings fit spans
unfoldable pub fitting_frame : Style → Borders ℕ
fitting_frame Rounded = ruled (codes "├─┼┤") (style_frame Rounded)
fitting_frame Sharp = ruled (codes "├─┼┤") (style_frame Sharp)
fitting_frame style = style_frame style

-- how many spaces stand on both sides of a text
abbrev pub style_padding : Style → ℕ
style_padding Rst = 0
style_padding Blank = 0
style_padding Plain = 0
style_padding style = 1
