-- What keeps the rows of a text from their picture: a head that no column has, and fields under spans.
use Rattle.std.specs.Prelude.{◌≢◌, ℕ, Bool, true, not, List, [], get_or, max, Option, string_bytes}
use Rattle.std.specs.List.{Contains, list_any, position}
use Rattle.std.specs.Str.{bytes_eq}
use Rattle.papergrid_values.specs.declared.position.Position.{Position}
use Rattle.papergrid_maps.specs.Anchors.{IsWithin}
use Rattle.papergrid_csv.specs.Numbers.{field_in}
use Rattle.papergrid_csv.specs.declared.request.Alignment.{Alignment}
use Rattle.papergrid_csv.specs.declared.request.ColumnName.{ColumnName}
use Rattle.papergrid_csv.specs.declared.request.ColumnName.TheVariants.{Head, Number}
use Rattle.papergrid_csv.specs.declared.request.Span.{Span}

-- whether the first row has a field with the text of a name, if it is by a text
abbrev pub is_found : List (List ℕ) → ColumnName → Bool
is_found head (Number column) = true
is_found head (Head text) = list_any (λ field. bytes_eq field (string_bytes text)) head

-- the number of the first entry whose name no field of the first row has
abbrev pub first_missing : List (List ℕ) → List (ColumnName × Alignment) → Option ℕ
first_missing head entries = position (λ entry. not (is_found head entry.0)) entries

-- the field at a position, an empty one where there is none
abbrev pub field_at : List (List (List ℕ)) → Position → List ℕ
field_at rows p = field_in p.col (get_or rows p.row [])

-- a position lies in the rectangle of a span, and is not the span's own
pub record IsUnder (span : Span) (p : Position) : Type 0 where
  pub within : IsWithin (record { position = span.position; rows = max 1 span.rows; cols = max 1 span.columns }) p
  pub other : p ≢ span.position

-- one of these spans hides the field there, which is not empty
pub record IsFieldHidden (spans : List Span) (rows : List (List (List ℕ))) (p : Position) : Type 0 where
  pub span : Span
  pub listed : Contains spans span
  pub under : IsUnder span p
  pub field : field_at rows p ≢ []
