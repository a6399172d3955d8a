-- The columns that pieces take where columns of a table are cut into ranges.
use Rattle.std.proofs.Common.{◌≡◌, ◌∙◌, ap, sym, subst, refl, inl, inr, ℕ, zero, suc, ◌+◌, ◌-◌, ◌<◌, ◌≤◌, Bool, cond, List, ◌++◌, arith}
use Rattle.std.specs.List.{flat_map, range_with_len}
use Rattle.std.proofs.lemmas.Bool.{cases_lt}
use Rattle.std.proofs.lemmas.List.Concat.{flat_map-append}
use Rattle.papergrid_tracks.proofs.LoopLemmas.{range_with_len-append}
use Rattle.papergrid_layout.specs.Places.{extent, line_offset, offset}
use Rattle.papergrid_layout.proofs.PlaceSums.{line-before, offset-after, offset-next}
use Rattle.papergrid_draw.specs.Laws.{terminal_columns}
use Rattle.papergrid_draw.specs.Pieces.{Piece}
use Rattle.papergrid_draw.proofs.Ranges.{AreRanges, FillRanges}
use Rattle.papergrid_draw.proofs.ContentLemmas.{columns-append}
use Rattle.papergrid_draw.proofs.LineLemmas.{range-more}

-- what stands before a number, at it and after it
pub cut-at : {X : Type 0} (f : ℕ → List X) (n c : ℕ) → c < n →
    flat_map f (range_with_len 0 n) ≡ flat_map f (range_with_len 0 c) ++ (f c ++ flat_map f (range_with_len (c + 1) (n - (c + 1))))
cut-at f n c below =
    let all : n ≡ c + suc (n - (c + 1)) = omega arith in
    let here : 0 + c ≡ c = omega arith in
    ap (λ m. flat_map f (range_with_len 0 m)) all
    ∙ ap (flat_map f) (range_with_len-append 0 c (suc (n - (c + 1))))
    ∙ flat_map-append f (range_with_len 0 c) (range_with_len (0 + c) (suc (n - (c + 1))))
    ∙ ap (λ k. flat_map f (range_with_len 0 c) ++ (f k ++ flat_map f (range_with_len (k + 1) (n - (c + 1))))) here

-- a range of one column is as wide as that
pub extent-one : (size : ℕ → ℕ) (line : ℕ → Bool) (c : ℕ) → extent size line c 1 ≡ size c
extent-one size line c =
    let after : offset size line (c + 1) ≡ offset size line c + extent size line c 1 + cond (line (c + 1)) 1 0 =
    offset-after size line c 1 (omega arith) in
    let next : offset size line (c + 1) ≡ offset size line c + size c + cond (line (c + 1)) 1 0 = offset-next size line c in
    omega arith

module _ (size : ℕ → ℕ) (line : ℕ → Bool) (count : ℕ) (first many : ℕ → ℕ) (pieces : ℕ → List Piece) (ranges : AreRanges count first many)
    (filled : FillRanges size line count first many pieces) where
  -- the pieces of the columns before one
  abbrev pub before : ℕ → List Piece
  before c = flat_map pieces (range_with_len 0 c)

  abbrev drawn : ℕ → ℕ
  drawn c = cond (line c) 1 0

  columns-more : (c : ℕ) → terminal_columns (before (c + 1)) ≡ terminal_columns (before c) + terminal_columns (pieces c)
  columns-more c = ap terminal_columns (range-more pieces c) ∙ columns-append (before c) (pieces c)

  -- with those of a column they take what is up to the end of its range
  abbrev UpToEnd : ℕ → Type 0
  UpToEnd c = terminal_columns (before (c + 1)) ≡ offset size line (first c) + extent size line (first c) (many c)

  -- where another range begins next, they take what is up to the line before that
  next-begins : (c : ℕ) → c < count → UpToEnd c → (c + 1 < count → first (c + 1) ≡ c + 1) → terminal_columns (before (c + 1)) ≡ line_offset size line (c + 1)
  next-begins c below so_far begins =
      let in_range = ranges.within c below in
      let from : first c ≤ c = in_range.0 in
      let to : c < first c + many c = in_range.1 in
      let last : first c + many c ≤ count = in_range.2 in
      let ends : first c + many c ≡ c + 1 = elim (cases_lt (c + 1) (first c + many c)) [
        | inl further ↦
            let same : first (c + 1) ≡ first c = (ranges.shared c (c + 1) below (omega arith) further).0 in
            let next : first (c + 1) ≡ c + 1 = begins (omega arith) in
            absurd (omega arith)
        | inr reached ↦ omega arith
      ] in
      let after : offset size line (first c + many c) ≡ offset size line (first c) + extent size line (first c) (many c) + drawn (first c + many c) =
      offset-after size line (first c) (many c) (omega arith) in
      let at : offset size line (c + 1) ≡ line_offset size line (c + 1) + drawn (c + 1) = line-before size line (c + 1) in
      let there : offset size line (first c + many c) ≡ offset size line (c + 1) = ap (offset size line) ends in
      let crossed : drawn (first c + many c) ≡ drawn (c + 1) = ap drawn ends in
      omega (arith, so_far)

  one-more : (c : ℕ) → c + 1 < count → UpToEnd c → UpToEnd (c + 1)
  one-more c below so_far =
      let more : terminal_columns (before (c + 1 + 1)) ≡ terminal_columns (before (c + 1)) + terminal_columns (pieces (c + 1)) = columns-more (c + 1) in
      let in_range = ranges.within (c + 1) below in
      let from : first (c + 1) ≤ c + 1 = in_range.0 in
      let to : c + 1 < first (c + 1) + many (c + 1) = in_range.1 in
      elim (cases_lt (first (c + 1)) (c + 1)) [
        | inl behind ↦
            let same = ranges.shared (c + 1) c below (omega arith) (omega arith) in
            let none : terminal_columns (pieces (c + 1)) ≡ 0 = ap terminal_columns (filled.inside (c + 1) below behind) in
            let ends : offset size line (first c) + extent size line (first c) (many c) ≡ offset size line (first (c + 1)) + extent size line (first (c + 1)) (many (c + 1)) =
            (λ i. offset size line (same.0 i) + extent size line (same.0 i) (same.1 i)) in
            omega (arith, so_far)
        | inr here ↦
            let begins : first (c + 1) ≡ c + 1 = omega arith in
            let reached : terminal_columns (before (c + 1)) ≡ line_offset size line (c + 1) = next-begins c (omega arith) so_far (λ _. begins) in
            let own : terminal_columns (pieces (c + 1)) ≡ drawn (c + 1) + extent size line (c + 1) (many (c + 1)) = filled.begun (c + 1) below begins in
            let at : offset size line (c + 1) ≡ line_offset size line (c + 1) + drawn (c + 1) = line-before size line (c + 1) in
            let ends : offset size line (first (c + 1)) + extent size line (first (c + 1)) (many (c + 1)) ≡ offset size line (c + 1) + extent size line (c + 1) (many (c + 1)) =
            ap (λ k. offset size line k + extent size line k (many (c + 1))) begins in
            omega arith
      ]

  up-to-end : (c : ℕ) → c < count → UpToEnd c
  up-to-end zero below =
      let more : terminal_columns (before (0 + 1)) ≡ terminal_columns (before 0) + terminal_columns (pieces 0) = columns-more 0 in
      let none : terminal_columns (before 0) ≡ 0 = refl in
      let from : first 0 ≤ 0 = (ranges.within 0 below).0 in
      let begins : first 0 ≡ 0 = omega arith in
      let own : terminal_columns (pieces 0) ≡ drawn 0 + extent size line 0 (many 0) = filled.begun 0 below begins in
      let at : offset size line 0 ≡ line_offset size line 0 + drawn 0 = line-before size line 0 in
      let nothing : line_offset size line 0 ≡ 0 = refl in
      let ends : offset size line (first 0) + extent size line (first 0) (many 0) ≡ offset size line 0 + extent size line 0 (many 0) =
      ap (λ k. offset size line k + extent size line k (many 0)) begins in
      omega arith
  up-to-end (suc c) below =
      subst UpToEnd (let e : c + 1 ≡ suc c = omega arith in e)
      (one-more c (omega arith) (up-to-end c (omega arith)))

  -- those before the column that a range begins in take what is up to the line before that, and so do those of all columns
  pub columns-before : (c : ℕ) → c ≤ count → (c < count → first c ≡ c) → terminal_columns (before c) ≡ line_offset size line c
  columns-before zero within begins = refl
  columns-before (suc c) within begins =
      let next : c + 1 ≡ suc c = omega arith in
      subst (λ n. terminal_columns (before n) ≡ line_offset size line n) next
      (next-begins c (omega arith) (up-to-end c (omega arith)) (λ more. subst (λ n. first n ≡ n) (sym next) (begins (omega arith))))
