-- What calls tell of the table of a handle.
use Rattle.std.specs.Prelude.{◌≡◌, ◌⊎◌, ◌<◌, ◌≤◌, ℕ, ℤ, ◌==◌, if◌then◌else◌, ◌++◌, IfSome, List, Option, None, Some, Result, Ok, Err, drop, length, map}
use Rattle.papergrid_values.specs.declared.direction.Direction.{Direction}
use Rattle.papergrid_values.specs.declared.position.Position.{Position}
use Rattle.papergrid_layout.specs.declared.rect.Place.{Place}
use Rattle.papergrid_tracks.specs.declared.sizing.Sizing.{Sizing}
use Rattle.papergrid_tracks.specs.declared.sizing.Sizing.TheVariants.{ByShares, Least}
use Rattle.papergrid_draw.specs.Drawings.{Drawing}
use Rattle.papergrid_draw.specs.Lined.{lined}
use Rattle.papergrid_builder.specs.Layouts.{IsCellAnswer, IsFoundTable, IsNoFoundTable, IsPlaceAnswer, certificate_along, sizes_along, totals_of}
use Rattle.papergrid_builder.specs.Pictures.{IsDrawingOf, IsNotDrawn}
use Rattle.papergrid_builder.specs.BuilderStates.{FoundTable, BuilderState}
use Rattle.papergrid_builder.specs.declared.error.BuilderError.{BuilderError}
use Rattle.papergrid_builder.specs.declared.error.BuilderError.TheVariants.{NotEstimated, NotTiled, OutOfTable}
use Rattle.papergrid_c.specs.Numbers.{done, no_cell, no_certificate, no_room, no_table, number_of}
use Rattle.papergrid_c.specs.declared.structs.PapergridPlace.{PapergridPlace}
use Rattle.papergrid_c.specs.declared.structs.PapergridPosition.{PapergridPosition}

-- what a call does to the table of a handle, and what it tells in the place of what was lent to it. A
-- handle without a table stays so
abbrev pub TellsOfTable : {A : Type 0} → (BuilderState → A → BuilderState → A → ℤ → Type 0) → Option BuilderState → A → Option BuilderState → A → ℤ → Type 0
TellsOfTable Does None lent new told result = (new ≡ None) × (told ≡ lent) × (result ≡ no_table)
TellsOfTable Does (Some old) lent new told result = (table : BuilderState) × (new ≡ Some table) × Does old lent table told result

-- the same of a call that leaves the table as it is
abbrev pub AsksTable : {A : Type 0} → (BuilderState → A → A → ℤ → Type 0) → Option BuilderState → A → Option BuilderState → A → ℤ → Type 0
AsksTable Tells None lent new told result = (new ≡ None) × (told ≡ lent) × (result ≡ no_table)
AsksTable Tells (Some table) lent new told result = (new ≡ Some table) × Tells table lent told result

-- sizes by shares, or the least
abbrev pub sizing_of : ℕ → Sizing
sizing_of least = if least == 0 then ByShares else Least

-- the total width and height by sizes that are found of the table and kept; or why there are none
abbrev pub Estimates : Sizing → BuilderState → ℕ × ℕ → BuilderState → ℕ × ℕ → ℤ → Type 0
Estimates sizing old lent new told result =
    ((found : FoundTable) × IsFoundTable old.settings old.rows sizing found × (new ≡ record old { found = Some found })
    × (told ≡ totals_of found) × (result ≡ done))
    ⊎ ((e : BuilderError) × IsNoFoundTable old.settings old.rows sizing e × (new ≡ old) × (told ≡ lent) × (result ≡ number_of e))

-- sizes that were found are those of the table as it is
abbrev pub AreCurrent : BuilderState → Type 0
AreCurrent table = IfSome table.found (λ found. (sizing : Sizing) × IsFoundTable table.settings table.rows sizing found)

-- a screen rectangle as C has it
abbrev pub place_for_c : Place → PapergridPlace
place_for_c place = record { left = place.left; top = place.top; width = place.width; height = place.height }

-- a position as C has it
abbrev pub position_for_c : Position → PapergridPosition
position_for_c p = record { row = p.row; column = p.col }

-- how the answer to where a cell stands is told
abbrev pub IsToldPlace : Result Place BuilderError → PapergridPlace → PapergridPlace → ℤ → Type 0
IsToldPlace (Ok place) lent told result = (told ≡ place_for_c place) × (result ≡ done)
IsToldPlace (Err e) lent told result = (told ≡ lent) × (result ≡ number_of e)

-- where the cell at a position stands, by the sizes that were found
abbrev pub TellsPlace : Position → BuilderState → PapergridPlace → PapergridPlace → ℤ → Type 0
TellsPlace p table lent told result =
    (answer : Result Place BuilderError) × IsPlaceAnswer table.found p answer × AreCurrent table × IsToldPlace answer lent told result

-- how the answer to which cell stands over a point is told
abbrev pub IsToldCell : Result (Option Position) BuilderError → PapergridPosition → PapergridPosition → ℤ → Type 0
IsToldCell (Ok None) lent told result = (told ≡ lent) × (result ≡ no_cell)
IsToldCell (Ok (Some p)) lent told result = (told ≡ position_for_c p) × (result ≡ done)
IsToldCell (Err e) lent told result = (told ≡ lent) × (result ≡ number_of e)

-- the cell over a column of the terminal in a line, by the sizes that were found
abbrev pub TellsCell : ℕ → ℕ → BuilderState → PapergridPosition → PapergridPosition → ℤ → Type 0
TellsCell column line table lent told result =
    (answer : Result (Option Position) BuilderError) × IsCellAnswer table.found column line answer × AreCurrent table × IsToldCell answer lent told result

-- the cell of which an error speaks
abbrev pub cell_of_error : BuilderError → PapergridPosition → PapergridPosition
cell_of_error (OutOfTable p) lent = position_for_c p
cell_of_error (NotTiled p) lent = position_for_c p
cell_of_error e lent = lent

-- the picture is kept, and its length told; or why there is none, and the cell of which that speaks
abbrev pub DrawsPicture : Sizing → BuilderState → ℕ × PapergridPosition → BuilderState → ℕ × PapergridPosition → ℤ → Type 0
DrawsPicture sizing old lent new told result =
    ((d : Drawing) × IsDrawingOf old.settings old.rows sizing d × (new ≡ record old { picture = lined d })
    × (told ≡ (length (lined d), lent.1)) × (result ≡ done))
    ⊎ ((e : BuilderError) × IsNotDrawn old.settings old.rows sizing e × (new ≡ old) × (told ≡ (lent.0, cell_of_error e lent.1)) × (result ≡ number_of e))

-- values written to the front of what is lent, where they fit
abbrev pub TellsInFront : {A : Type 0} → List A → List A → List A → ℤ → Type 0
TellsInFront values lent told result =
    ((length values ≤ length lent) × (told ≡ values ++ drop (length values) lent) × (result ≡ done))
    ⊎ ((length lent < length values) × (told ≡ lent) × (result ≡ no_room))

-- the bytes of the picture that was drawn last
abbrev pub TellsPicture : BuilderState → List ℕ → List ℕ → ℤ → Type 0
TellsPicture table = TellsInFront table.picture

-- how many values there are, and they, where they fit
abbrev pub TellsCounted : {A : Type 0} → List A → List A × ℕ → List A × ℕ → ℤ → Type 0
TellsCounted values lent told result = (told.1 ≡ length values) × TellsInFront values lent.0 told.0 result

-- the widths, or the heights, of what was found
abbrev pub TellsFoundSizes : Direction → Option FoundTable → List ℕ × ℕ → List ℕ × ℕ → ℤ → Type 0
TellsFoundSizes direction None lent told result = (told ≡ lent) × (result ≡ number_of NotEstimated)
TellsFoundSizes direction (Some found) lent told result = TellsCounted (sizes_along direction found) lent told result

-- of the table
abbrev pub TellsSizes : Direction → BuilderState → List ℕ × ℕ → List ℕ × ℕ → ℤ → Type 0
TellsSizes direction table lent told result = TellsFoundSizes direction table.found lent told result × AreCurrent table

-- the cells of a certificate, if there is one
abbrev pub TellsPositions : Option (List Position) → List PapergridPosition × ℕ → List PapergridPosition × ℕ → ℤ → Type 0
TellsPositions None lent told result = (told ≡ lent) × (result ≡ no_certificate)
TellsPositions (Some positions) lent told result = TellsCounted (map position_for_c positions) lent told result

-- the cells that certify the widths, or the heights, of what was found
abbrev pub TellsFoundCertificate : Direction → Option FoundTable → List PapergridPosition × ℕ → List PapergridPosition × ℕ → ℤ → Type 0
TellsFoundCertificate direction None lent told result = (told ≡ lent) × (result ≡ number_of NotEstimated)
TellsFoundCertificate direction (Some found) lent told result = TellsPositions (certificate_along direction found) lent told result

-- of the table
abbrev pub TellsCertificate : Direction → BuilderState → List PapergridPosition × ℕ → List PapergridPosition × ℕ → ℤ → Type 0
TellsCertificate direction table lent told result = TellsFoundCertificate direction table.found lent told result × AreCurrent table
