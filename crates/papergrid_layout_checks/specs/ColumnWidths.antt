-- The greatest width of each column: what the tests' consumer of records answers.
use Rattle.std.specs.Prelude.{ℕ, zero, suc, List, [], ◌∷◌, max, replicate}
use Rattle.std.specs.List.{fold}

-- each number of ws, or the number of the row in its place where that is greater
abbrev pub widen : List ℕ → List ℕ → List ℕ
widen [] row = []
widen (w ∷ ws) [] = w ∷ ws
widen (w ∷ ws) (c ∷ row) = max w c ∷ widen ws row

-- the greatest number of each of n columns over the rows
abbrev pub greatest_widths : ℕ → List (List ℕ) → List ℕ
greatest_widths n rows = fold widen (replicate n 0) rows

-- the numbers, with v in place n where that is greater
abbrev pub raised_widths : List ℕ → ℕ → ℕ → List ℕ
raised_widths [] n v = []
raised_widths (x ∷ xs) zero v = max x v ∷ xs
raised_widths (x ∷ xs) (suc n) v = x ∷ raised_widths xs n v
