-- Worked tables: the sizes along one of their directions, and the cells that certify them.
use Rattle.std.specs.Prelude.{◌≡◌, ℕ, ◌==◌, Bool, true, false, List, [], ◌∷◌, Some}
use Rattle.papergrid_tracks.specs.declared.demand.Demand.{Demand}
use Rattle.papergrid_tracks.specs.Problem.{Problem, problem_of_demands}
use Rattle.papergrid_tracks.specs.Ranges.{first_out}
use Rattle.papergrid_tracks.specs.Fits.{IsTooLarge}
use Rattle.papergrid_tracks.specs.Sizes.{sizes_of}
use Rattle.papergrid_tracks.specs.Certificates.{certificate_cells_of}

-- what the cell at (row, col) asks for along columns
abbrev wide : ℕ → ℕ → ℕ → ℕ → Demand
wide row col span minimum = record { row = row; col = col; start = col; span = span; minimum = minimum }

-- what it asks for along rows
abbrev high : ℕ → ℕ → ℕ → ℕ → Demand
high row col span minimum = record { row = row; col = col; start = row; span = span; minimum = minimum }

abbrev everywhere : ℕ → Bool
everywhere i = true

abbrev nowhere : ℕ → Bool
nowhere i = false

abbrev max : ℕ
max = 18446744073709551615

abbrev picture_columns : List Demand
picture_columns = wide 0 0 1 17 ∷ wide 0 1 1 12 ∷ wide 0 2 1 16 ∷ wide 0 3 1 1 ∷ wide 1 1 3 14 ∷ []

abbrev picture_rows : List Demand
picture_rows = high 0 0 2 3 ∷ high 0 1 1 1 ∷ high 0 2 1 1 ∷ high 0 3 1 1 ∷ high 1 1 1 1 ∷ []

abbrev even_rows : List Demand
even_rows =
    high 0 0 2 7 ∷ high 0 1 1 1 ∷ high 0 2 1 1 ∷ high 1 1 1 1 ∷ high 1 2 1 1 ∷ high 2 0 1 1 ∷ high 2 1 1 1 ∷ high 2 2 1 1 ∷ []

abbrev remainder_rows : List Demand
remainder_rows = high 0 0 2 8 ∷ high 0 1 1 1 ∷ high 1 1 1 1 ∷ []

abbrev lined_rows : List Demand
lined_rows = high 0 0 3 1 ∷ high 0 1 2 1 ∷ high 0 2 2 1 ∷ high 2 1 1 1 ∷ high 2 2 1 1 ∷ []

abbrev nested_columns : List Demand
nested_columns = wide 0 0 1 1 ∷ wide 0 1 1 1 ∷ wide 0 2 1 1 ∷ wide 1 0 3 10 ∷ wide 2 0 1 1 ∷ wide 2 1 2 8 ∷ []

abbrev nested_rows : List Demand
nested_rows = high 0 0 1 1 ∷ high 0 1 3 10 ∷ high 0 2 1 1 ∷ high 1 0 1 1 ∷ high 1 2 2 8 ∷ high 2 0 1 1 ∷ []

abbrev inner_rows : List Demand
inner_rows =
    high 0 0 1 1 ∷ high 0 1 4 7 ∷ high 0 2 2 5 ∷ high 0 3 1 1 ∷ high 1 0 1 1 ∷ high 1 3 1 1 ∷ high 2 0 1 1 ∷ high 2 2 1 1 ∷
    high 2 3 2 3 ∷ high 3 0 1 1 ∷ high 3 2 1 1 ∷ []

abbrev crossing_rows : List Demand
crossing_rows = high 0 0 2 10 ∷ high 0 1 1 1 ∷ high 1 1 2 10 ∷ high 2 0 1 1 ∷ []

abbrev crossing_columns : List Demand
crossing_columns = wide 0 0 2 10 ∷ wide 0 2 1 0 ∷ wide 1 0 1 0 ∷ wide 1 1 2 10 ∷ []

-- the sizes, and the cells of the certificate
pub record GivesSizes (problem : Problem) (sizes : List ℕ) (cells : List Demand) : Type 0 where
  pub sizes_are : sizes_of problem ≡ sizes
  pub cells_are : certificate_cells_of problem ≡ cells

-- the tables that were worked by hand
pub record WorkedTables : Type 0 where
  pub readme_picture : GivesSizes (problem_of_demands everywhere 4 picture_columns) (17 ∷ 12 ∷ 16 ∷ 1 ∷ []) (wide 0 0 1 17 ∷ wide 0 1 1 12 ∷ wide 0 2 1 16 ∷ wide 0 3 1 1 ∷ [])
  pub readme_picture_rows : GivesSizes (problem_of_demands everywhere 2 picture_rows) (1 ∷ 1 ∷ []) (high 0 1 1 1 ∷ high 1 1 1 1 ∷ [])
  pub even_shares_over_inner_line : GivesSizes (problem_of_demands everywhere 3 even_rows) (3 ∷ 3 ∷ 1 ∷ []) (high 0 0 2 7 ∷ high 2 0 1 1 ∷ [])
  pub remainder_to_first : GivesSizes (problem_of_demands everywhere 2 remainder_rows) (4 ∷ 3 ∷ []) (high 0 0 2 8 ∷ [])
  pub lines_alone_satisfy : GivesSizes (problem_of_demands everywhere 3 lined_rows) (0 ∷ 0 ∷ 1 ∷ []) (high 2 1 1 1 ∷ [])
  pub nested_column_spans : GivesSizes (problem_of_demands nowhere 3 nested_columns) (2 ∷ 4 ∷ 4 ∷ []) (wide 1 0 3 10 ∷ [])
  pub nested_row_spans : GivesSizes (problem_of_demands nowhere 3 nested_rows) (2 ∷ 4 ∷ 4 ∷ []) (high 0 1 3 10 ∷ [])
  pub row_spans_within_row_span : GivesSizes (problem_of_demands nowhere 4 inner_rows) (3 ∷ 2 ∷ 2 ∷ 1 ∷ []) (high 0 2 2 5 ∷ high 2 3 2 3 ∷ [])
  pub crossing_column_spans : sizes_of (problem_of_demands nowhere 3 crossing_columns) ≡ 5 ∷ 8 ∷ 2 ∷ []
  pub crossing_row_spans : sizes_of (problem_of_demands nowhere 3 crossing_rows) ≡ 6 ∷ 7 ∷ 3 ∷ []
  pub equal_ranges : GivesSizes (problem_of_demands nowhere 2 (wide 0 0 2 3 ∷ wide 1 0 2 6 ∷ [])) (4 ∷ 2 ∷ []) (wide 1 0 2 6 ∷ [])
  pub halves_of_the_greatest : GivesSizes (problem_of_demands nowhere 2 (wide 0 0 2 max ∷ [])) (9223372036854775808 ∷ 9223372036854775807 ∷ []) (wide 0 0 2 max ∷ [])
  pub halves_with_a_line : GivesSizes (problem_of_demands (λ i. i == 1) 2 (wide 0 0 2 max ∷ [])) (9223372036854775807 ∷ 9223372036854775807 ∷ []) (wide 0 0 2 max ∷ [])
  pub greatest_size : GivesSizes (problem_of_demands nowhere 1 (wide 0 0 1 max ∷ [])) (max ∷ []) (wide 0 0 1 max ∷ [])
  pub greatest_size_and_lines : IsTooLarge (problem_of_demands everywhere 1 (wide 0 0 1 max ∷ [])) (sizes_of (problem_of_demands everywhere 1 (wide 0 0 1 max ∷ [])))
  pub out_of_table : first_out 2 (wide 0 0 3 1 ∷ []) ≡ Some (record { row = 0; col = 0 })
  pub first_out_in_each_direction : first_out 2 (wide 0 0 1 0 ∷ wide 0 1 1 0 ∷ wide 1 1 2 0 ∷ []) ≡ Some (record { row = 1; col = 1 })
  pub empty_tables : GivesSizes (problem_of_demands everywhere 0 []) [] []
