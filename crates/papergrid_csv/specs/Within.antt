-- The picture of a CSV text whose fields are cut so that its table is no wider than it may be.
use Rattle.std.specs.Prelude.{◌≡◌, ◌≤◌, ◌<◌, ⊤, ℕ, List, Option, None, Some}
use Rattle.papergrid_csv.specs.Pictures.{IsCsvRun, IsUnwritten}
use Rattle.papergrid_csv.specs.declared.request.Request.{Request}
use Rattle.papergrid_csv.specs.declared.run.CsvEnd.{CsvEnd}
use Rattle.papergrid_csv.specs.declared.run.CsvEnd.TheVariants.{TooWide}

module _ (request : Request) (width : ℕ) where
  -- a request with each field cut so, or as it is, for a table of at most so many columns
  abbrev pub cut_request : Option ℕ → Request
  cut_request cut = record request { cut = cut; max_width = Some width }

  module _ (input : List ℕ) where
    -- with fields cut so the table of an input is wider
    abbrev pub IsWiderWith : Option ℕ → Type 0
    IsWiderWith cut = (found : ℕ) × IsUnwritten (cut_request cut) input (TooWide found)

    -- no greater cut of at most so many columns will do. With fields as they are, and by each such cut, the table is wider
    abbrev pub IsGreatestCut : Option ℕ → Type 0
    IsGreatestCut None = ⊤
    IsGreatestCut (Some cut) =
        IsWiderWith None × (1 ≤ cut) × (cut ≤ width)
        × ((greater : ℕ) → cut < greater → greater ≤ width → IsWiderWith (Some greater))

    -- no smaller cut is left
    abbrev pub IsLastCut : Option ℕ → Type 0
    IsLastCut None = width ≡ 0
    IsLastCut (Some cut) = cut ≡ 1

    -- how the run of an input ends, and what is written, with fields cut so. The cut is the greatest by which the table
    -- is not too wide. Where the table is too wide all the same, no smaller cut is left
    pub record IsRunWithin (cut : Option ℕ) (end : CsvEnd) (output : List ℕ) : Type 0 where
      pub greatest : IsGreatestCut cut
      pub run : IsCsvRun (cut_request cut) input end output
      pub last : (found : ℕ) → end ≡ TooWide found → IsLastCut cut
