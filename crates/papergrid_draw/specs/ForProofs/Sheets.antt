-- The lines of a table as they are written.
use Rattle.std.specs.Prelude.{◌≡◌, ◌+◌, ◌<◌, ◌≤◌, ℕ, Bool, true, if◌then◌else◌, List, [], ◌∷◌, ◌++◌, Result, Ok, Err, OnOk, length, map, ⊤}
use Rattle.std.specs.Fmt.{WritesInCalls}
use Rattle.std.specs.List.{enumerate_from, range_with_len}
use Rattle.papergrid_values.specs.Positions.{IsBefore, position_of}
use Rattle.papergrid_values.specs.declared.direction.Direction.TheVariants.{Rows}
use Rattle.papergrid_values.specs.declared.position.Position.{Position}
use Rattle.papergrid_layout.specs.Places.{total_along}
use Rattle.papergrid_draw.specs.Bytes.{line_bytes}
use Rattle.papergrid_draw.specs.Drawings.{Drawing, layout_of}
use Rattle.papergrid_draw.specs.Drawn.{DrawnLine, TextLine, text_line}
use Rattle.papergrid_draw.specs.Faults.{HasNoRoom}
use Rattle.papergrid_draw.specs.Margins.{beside, with_margins}
use Rattle.papergrid_draw.specs.Deliveries.{BreaksOff, TakesBeginning}
use Rattle.papergrid_draw.specs.Tiles.{IsFirstPosition}
use Rattle.papergrid_draw.specs.ForProofs.Pages.{AreSlotsSet, AreSlots, row_start, text_start}
use Rattle.papergrid_draw.specs.declared.error.DrawError.{DrawError}
use Rattle.papergrid_draw.specs.declared.error.DrawError.TheVariants.{Memory, NoRoom, NotTiled, OutOfTable, TooLarge, Write}
use Rattle.papergrid_draw.specs.declared.page.Slot.{Slot}
use Rattle.papergrid_draw.specs.declared.sheet.Sheet.{Sheet}

-- ---- lines one after the other

-- what a line begins with: a line feed, if it is not the first
abbrev pub separator : Bool → List ℕ
separator begun = if begun then 10 ∷ [] else []

-- the bytes of lines, where others may stand before them
abbrev pub lines_after : Bool → List (List ℕ) → List ℕ
lines_after begun [] = []
lines_after begun (line ∷ lines) = separator begun ++ line ++ lines_after true lines

-- whether any line stands there after them
abbrev pub begun_after : Bool → List (List ℕ) → Bool
begun_after begun [] = begun
begun_after begun (line ∷ lines) = true

-- ---- what is written

-- by the relations of texts that a writer takes and of one that breaks off
module _ {W : Type 0} (takes breaks : W → List ℕ → W → Type 0) where
  -- not all of the bytes were taken: an allocation failed, or a text broke off
  abbrev pub IsCutShort : W → W → List ℕ → DrawError → Type 0
  IsCutShort old new bytes (Memory e) = TakesBeginning takes old bytes new
  IsCutShort old new bytes Write = BreaksOff takes breaks old bytes new
  IsCutShort old new bytes (OutOfTable p) = ⊥
  IsCutShort old new bytes (NotTiled p) = ⊥
  IsCutShort old new bytes (NoRoom p) = ⊥
  IsCutShort old new bytes TooLarge = ⊥

  -- all of them were, or not
  abbrev pub Writes : {A : Type 0} → W → W → List ℕ → Result A DrawError → Type 0
  Writes old new bytes (Ok x) = WritesInCalls takes old bytes new
  Writes old new bytes (Err error) = IsCutShort old new bytes error

  -- lines are written, before which others may stand
  pub record WritesLines {A : Type 0} (old new : W) (begun after : Bool) (lines : List (List ℕ))
      (result : Result A DrawError) : Type 0 where
    pub bytes : Writes old new (lines_after begun lines) result
    pub begun_is : OnOk result (after ≡ begun_after begun lines)

-- ---- the lines of a table

module _ (d : Drawing) where
  -- what stands left and right of line y
  abbrev pub left_margin_at : ℕ → List ℕ
  left_margin_at y = beside d.config.margin.left d.config.margin_color.left d.config.margin_offset.left
      (total_along (layout_of d) Rows) y

  abbrev pub right_margin_at : ℕ → List ℕ
  right_margin_at y = beside d.config.margin.right d.config.margin_color.right d.config.margin_offset.right
      (total_along (layout_of d) Rows) y

  -- lines with their margins, from line y on
  abbrev pub margined : ℕ → List DrawnLine → List (List ℕ)
  margined y lines = map (with_margins d) (enumerate_from y (map line_bytes lines))

  -- the first k text lines of row r
  abbrev pub first_text_lines : ℕ → ℕ → List DrawnLine
  first_text_lines r k = map (λ i. TextLine (text_line d r i)) (range_with_len 0 k)

-- a table is drawn: its lines that are written, and its slots
module _ (d : Drawing) where
  -- the horizontal line before row r comes next, or where there is none, what comes after it
  pub record AtRule {T : Type 0} (r : ℕ) (sheet : Sheet) (slots : List (Slot T)) : Type 0 where
    pub row_in : r ≤ d.shape.0
    pub written : sheet.written ≡ row_start d r
    pub each : length slots ≡ d.shape.1
    pub kept : r < d.shape.0 → AreSlots d r (λ _. row_start d r) slots

  -- text line k of row r comes next, or after the last one the next row
  pub record AtText {T : Type 0} (r k : ℕ) (sheet : Sheet) (slots : List (Slot T)) : Type 0 where
    pub row_in : r < d.shape.0
    pub written : sheet.written ≡ text_start d r + k
    pub kept : AreSlots d r (λ _. text_start d r + k) slots

  -- row r comes next, whose cells are not taken, or none
  pub record AtRow {T : Type 0} (r : ℕ) (sheet : Sheet) (slots : List (Slot T)) : Type 0 where
    pub written : sheet.written ≡ row_start d r
    pub kept : AreSlotsSet d r 0 slots

-- ---- room

module _ (d : Drawing) where
  -- each visible cell before row r and column c has room
  abbrev pub HaveRoomBefore : ℕ → ℕ → Type 0
  HaveRoomBefore r c = (q : Position) → IsBefore q (position_of (r, c)) → HasNoRoom d q → ⊥

  -- the first one that has none; memory may be refused in place of any answer
  abbrev pub IsRoomFault : DrawError → Type 0
  IsRoomFault (NoRoom p) = IsFirstPosition (HasNoRoom d) p
  IsRoomFault (Memory e) = ⊤
  IsRoomFault e = ⊥

-- ---- the whole picture
