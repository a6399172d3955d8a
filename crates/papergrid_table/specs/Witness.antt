-- What `--witness` tells.
use Rattle.std.specs.Prelude.{◌≡◌, ℕ, IsUtf8, List, [], Option, None, Some}
use Rattle.papergrid_values.specs.declared.per_direction.PerDirection.{PerDirection}
use Rattle.papergrid_layout.specs.Certificates.{Solution}
use Rattle.papergrid_script.specs.Outputs.{certificates_text}
use Rattle.papergrid_script.specs.ScriptLines.{IsWithoutLast}
use Rattle.papergrid_script.specs.Texts.{newline}

-- the lines that name the cells that certify sizes, or nothing where no sizes were found
abbrev pub witness_lines : Option (PerDirection Solution) → List ℕ
witness_lines None = []
witness_lines (Some found) = certificates_text found

-- bytes where they are text, and else nothing
pub record IsTextOf (bytes text : List ℕ) : Type 0 where
  pub some : IsUtf8 bytes → text ≡ bytes
  pub none : (IsUtf8 bytes → ⊥) → text ≡ []

-- a message of lines: they, without a line feed after the last
abbrev pub IsMessageOf : List ℕ → List ℕ → Type 0
IsMessageOf lines message = (kept : List ℕ) × IsWithoutLast newline lines kept × IsTextOf kept message
