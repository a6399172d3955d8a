-- What the program writes for an input, and how it ends.
use Rattle.std.specs.Prelude.{◌≡◌, ℕ, List, [], ◌∷◌, ◌++◌, Option, Some, None, Ok, Err, codes, decimal, flat_map}
use Rattle.papergrid_values.specs.declared.per_direction.PerDirection.{PerDirection}
use Rattle.papergrid_values.specs.declared.position.Position.{Position}
use Rattle.papergrid_layout.specs.Certificates.{Solution}
use Rattle.papergrid_tracks.specs.declared.sizing.Sizing.{Sizing}
use Rattle.papergrid_script.specs.declared.answer.RunEnd.{RunEnd}
use Rattle.papergrid_script.specs.declared.answer.RunEnd.TheVariants.{Done, Refused, BadScript}
use Rattle.papergrid_script.specs.Scripts.{IsScript, Table}
use Rattle.papergrid_script.specs.Spelling.{space, comma}
use Rattle.papergrid_script.specs.Estimates.{Estimate, OutOfTable, TooLarge, Sized, IsEstimate}
use Rattle.papergrid_script.specs.Texts.{newline}

-- a space and a number for each
abbrev pub spaced_numbers : List ℕ → List ℕ
spaced_numbers numbers = flat_map (λ n. space ∷ decimal n) numbers

-- a line of a word and numbers
abbrev pub number_line : List ℕ → List ℕ → List ℕ
number_line word numbers = word ++ spaced_numbers numbers ++ newline ∷ []

-- a space, a row, a comma and a column for each
abbrev pub spaced_positions : List Position → List ℕ
spaced_positions positions = flat_map (λ position. space ∷ (decimal position.row ++ (comma ∷ decimal position.col))) positions

-- the cells that certify, by their positions, or that there are none such
abbrev pub certificate_line : List ℕ → Option (List Position) → List ℕ
certificate_line word None = word ++ codes " none" ++ newline ∷ []
certificate_line word (Some positions) = word ++ spaced_positions positions ++ newline ∷ []

-- the lines that name the cells that certify sizes
abbrev pub certificates_text : PerDirection Solution → List ℕ
certificates_text found =
    certificate_line (codes "witness widths") found.columns.certificate
    ++ certificate_line (codes "witness heights") found.rows.certificate

-- the lines that are written of an estimate
abbrev pub estimate_text : Estimate → List ℕ
estimate_text (OutOfTable position) = codes "refused: out of table at " ++ (decimal position.row ++ (comma ∷ (decimal position.col ++ newline ∷ [])))
estimate_text TooLarge = codes "refused: too large" ++ newline ∷ []
estimate_text (Sized found) =
    number_line (codes "widths") found.columns.sizes ++ number_line (codes "heights") found.rows.sizes
    ++ number_line (codes "total") (found.columns.total ∷ found.rows.total ∷ [])
    ++ certificates_text found

-- the line that is written of a script with a bad line
abbrev pub bad_line_text : ℕ → List ℕ
bad_line_text number = codes "bad script at line " ++ decimal number ++ newline ∷ []

-- how a run ends that writes an estimate
abbrev pub estimate_end : Estimate → RunEnd
estimate_end (OutOfTable position) = Refused
estimate_end TooLarge = Refused
estimate_end (Sized found) = Done

-- what is found, if an estimate has sizes
abbrev pub estimate_sizes : Estimate → Option (PerDirection Solution)
estimate_sizes (Sized found) = Some found
estimate_sizes estimate = None

-- what an input comes to: its first bad line, or the table that it describes with the estimate of that
pub data Outcome : Type 0 where
  BadLine : ℕ → Outcome
  Estimated : Table → Estimate → Outcome

-- where sizes are chosen so
abbrev pub IsOutcome : Sizing → List ℕ → Outcome → Type 0
IsOutcome sizing input (BadLine number) = IsScript input (Err number)
IsOutcome sizing input (Estimated table estimate) = IsScript input (Ok table) × IsEstimate sizing table estimate

-- of what the input comes to, this holds
abbrev pub OfOutcome : Sizing → List ℕ → (Outcome → Type 0) → Type 0
OfOutcome sizing input holds = (outcome : Outcome) × IsOutcome sizing input outcome × holds outcome

-- the lines that a run writes
abbrev pub outcome_text : Outcome → List ℕ
outcome_text (BadLine number) = bad_line_text number
outcome_text (Estimated table estimate) = estimate_text estimate

-- how it ends
abbrev pub outcome_end : Outcome → RunEnd
outcome_end (BadLine number) = BadScript
outcome_end (Estimated table estimate) = estimate_end estimate

-- the sizes, if there are any
abbrev pub outcome_sizes : Outcome → Option (PerDirection Solution)
outcome_sizes (BadLine number) = None
outcome_sizes (Estimated table estimate) = estimate_sizes estimate

-- the run of an input ends so, and writes this
abbrev pub IsAnswer : Sizing → List ℕ → RunEnd → List ℕ → Type 0
IsAnswer sizing input end output = OfOutcome sizing input (λ outcome. (end ≡ outcome_end outcome) × (output ≡ outcome_text outcome))
