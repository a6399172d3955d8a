-- A text with its width, and the lines that were kept of it, each with its width.
use Rattle.std.specs.Prelude.{ℕ, List}
use Rattle.papergrid_text.specs.Text.{greatest_width, cached_by_new, split_lines}

-- what is known of a measured text
pub record Measured (S : Type 0) : Type 0 where
  pub text : S
  pub width : ℕ
  pub lines : List (List ℕ × ℕ)

-- what `Text::new` keeps of a text: the greatest width of its lines, and the lines if several
abbrev pub measured_text : {S : Type 0} → (S → List ℕ) → S → Measured S
measured_text text s =
    let lines = split_lines (text s) in
    record { text = s; width = greatest_width lines; lines = cached_by_new lines }
