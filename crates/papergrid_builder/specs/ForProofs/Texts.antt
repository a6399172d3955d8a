-- The texts of cells in one text, and rows by where they begin among the cells.
use Rattle.std.specs.Prelude.{◌≤◌, ⊤, ℕ, List, [], ◌∷◌, All, IsCharBoundary, IsUtf8, drop, map, slice_range}
use Rattle.std.specs.Borrow.{Bor}

-- a range of a text that begins and ends between its characters
pub record IsTextRange (text : List ℕ) (range : ℕ × ℕ) : Type 0 where
  pub ordered : range.0 ≤ range.1
  pub begins : IsCharBoundary text range.0
  pub ends : IsCharBoundary text range.1

-- cells as ranges of a text
pub record AreCells (text : List ℕ) (ranges : List (ℕ × ℕ)) : Type 0 where
  pub utf8 : IsUtf8 text
  pub within : All (IsTextRange text) ranges

-- the text of a range
abbrev pub text_in : List ℕ → ℕ × ℕ → List ℕ
text_in text range = slice_range text range.0 range.1

-- the rows that begin so among the cells: each ends where the next one begins, and the last one with the cells
abbrev pub rows_told : List (List ℕ) → List ℕ → List (List (List ℕ))
rows_told cells [] = []
rows_told cells (start ∷ []) = drop start cells ∷ []
rows_told cells (start ∷ next ∷ starts) = slice_range cells start next ∷ rows_told cells (next ∷ starts)

-- where rows of so many cells may begin
abbrev pub AreStarts : ℕ → List ℕ → Type 0
AreStarts count [] = ⊤
AreStarts count (start ∷ []) = start ≤ count
AreStarts count (start ∷ next ∷ starts) = (start ≤ next) × AreStarts count (next ∷ starts)

-- the texts that are lent
abbrev pub texts_lent : List (Bor (List ℕ)) → List (List ℕ)
texts_lent texts = map (λ text. text.now) texts

-- the rows of texts that are lent
abbrev pub rows_lent : List (Bor (List (Bor (List ℕ)))) → List (List (List ℕ))
rows_lent rows = map (λ row. texts_lent row.now) rows
