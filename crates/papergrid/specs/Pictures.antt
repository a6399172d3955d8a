-- The picture of a script.
use Rattle.std.specs.Prelude.{◌≡◌, ℕ, List, [], ◌∷◌, ◌++◌, codes, decimal, Result, Ok, Err}
use Rattle.papergrid_tracks.specs.declared.sizing.Sizing.{Sizing}
use Rattle.papergrid_draw.specs.Drawings.{Drawing}
use Rattle.papergrid_draw.specs.Faults.{IsDrawable}
use Rattle.papergrid_draw.specs.declared.error.DrawError.{DrawError}
use Rattle.papergrid_draw.specs.declared.error.DrawError.TheVariants.{Memory, NoRoom, NotTiled, OutOfTable, TooLarge, Write}
use Rattle.papergrid_draw.specs.Lined.{lined}
use Rattle.papergrid_script.specs.Outputs.{bad_line_text}
use Rattle.papergrid_script.specs.Scripts.{IsScript, Table}
use Rattle.papergrid_script.specs.Texts.{newline}
use Rattle.papergrid_script.specs.declared.answer.RunEnd.{RunEnd}
use Rattle.papergrid_script.specs.declared.answer.RunEnd.TheVariants.{Done, Refused, BadScript}
use Rattle.papergrid_draw.specs.Sinks.{IsRefusal}
use Rattle.papergrid_draw.specs.Pictures.{IsDrawingBy, IsPictureFault}

-- the line that is written of a table that has no picture; none where only an allocation or the writer failed
abbrev pub refusal_line : DrawError → List ℕ
refusal_line (OutOfTable p) = codes "refused: out of table at " ++ (decimal p.row ++ (codes "," ++ (decimal p.col ++ newline ∷ [])))
refusal_line (NotTiled p) = codes "refused: not tiled at " ++ (decimal p.row ++ (codes "," ++ (decimal p.col ++ newline ∷ [])))
refusal_line (NoRoom p) = codes "refused: no room at " ++ (decimal p.row ++ (codes "," ++ (decimal p.col ++ newline ∷ [])))
refusal_line TooLarge = codes "refused: too large" ++ newline ∷ []
refusal_line (Memory e) = []
refusal_line Write = []

-- how a run ends that draws the table of a script, and what it writes. It writes the lines of the table's picture
-- where it can be drawn, or why the table has none
abbrev pub IsTablePicture : Sizing → Table → RunEnd → List ℕ → Type 0
IsTablePicture sizing table Done output =
    (d : Drawing) × IsDrawingBy table.columns table.rows sizing table.settings d × IsDrawable d × (output ≡ lined d)
IsTablePicture sizing table Refused output =
    (e : DrawError) × IsRefusal e × IsPictureFault table.columns table.rows sizing table.settings e × (output ≡ refusal_line e)
IsTablePicture sizing table BadScript output = ⊥

-- the same of a script: of its table, or of its first bad line
abbrev pub IsPictureOf : Sizing → Result Table ℕ → RunEnd → List ℕ → Type 0
IsPictureOf sizing (Ok table) end output = IsTablePicture sizing table end output
IsPictureOf sizing (Err number) end output =
    (end ≡ BadScript) × (output ≡ bad_line_text number)

-- of the bytes of an input
abbrev pub IsPictureRun : Sizing → List ℕ → RunEnd → List ℕ → Type 0
IsPictureRun sizing input end output = (script : Result Table ℕ) × IsScript input script × IsPictureOf sizing script end output
