-- What a span hides, by one row and by one span, and the earlier of two positions.
use Rattle.std.specs.Prelude.{◌≡◌, ◌≢◌, ◌<◌, ◌⊎◌, ℕ, List, [], Option, MatchOption}
use Rattle.papergrid_values.specs.Positions.{IsBefore, position_of}
use Rattle.papergrid_values.specs.declared.position.Position.{Position}
use Rattle.papergrid_csv.specs.Judging.{IsUnder, field_at}
use Rattle.papergrid_csv.specs.Numbers.{field_in}
use Rattle.papergrid_csv.specs.declared.request.Span.{Span}

-- a span hides the field there, which is not empty
abbrev pub IsHiddenBy : Span → List (List (List ℕ)) → Position → Type 0
IsHiddenBy span rows p = IsUnder span p × (field_at rows p ≢ [])

-- of a row with this number and these fields it hides the one in a column
abbrev pub IsHiddenIn : Span → ℕ → List (List ℕ) → ℕ → Type 0
IsHiddenIn span row fields col = IsUnder span (position_of (row, col)) × (field_in col fields ≢ [])

-- the first column of which something holds
pub record IsFirstColumn (holds : ℕ → Type 0) (col : ℕ) : Type 0 where
  pub it : holds col
  pub earlier : (c : ℕ) → c < col → holds c → ⊥

-- the earlier of two positions that there may be
abbrev pub IsEarlier : Option Position → Option Position → Option Position → Type 0
IsEarlier first other earlier =
    MatchOption first (earlier ≡ other) (λ p. MatchOption other (earlier ≡ first) (λ q.
    ((earlier ≡ first) × (IsBefore q p → ⊥)) ⊎ ((earlier ≡ other) × IsBefore q p)))
