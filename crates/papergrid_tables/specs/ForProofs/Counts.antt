-- Counts by line.
use Rattle.std.specs.Prelude.{◌≡◌, ℕ, ◌==◌, Bool, if◌then◌else◌, List, count_by, unwrap_or, nat_eq}
use Rattle.std.specs.HashMap.{HashMap, get}
use Rattle.papergrid_values.specs.Positions.{along}
use Rattle.papergrid_values.specs.declared.direction.Direction.{Direction}
use Rattle.papergrid_values.specs.declared.position.Position.{Position}

-- 1 where something holds
abbrev pub one_if : Bool → ℕ
one_if holds = if holds then 1 else 0

-- the count of a line, 0 where none is stored
abbrev pub line_count_of : {S : Type 0} → HashMap ℕ ℕ S → ℕ → ℕ
line_count_of counts line = unwrap_or (get nat_eq counts line) 0

-- how many of the positions stand on the line
abbrev pub number_on : Direction → ℕ → List Position → ℕ
number_on direction line positions = count_by (λ p. along direction p == line) positions

-- each line's count is how many of the positions stand on it
abbrev pub AreCounts : {S : Type 0} → Direction → HashMap ℕ ℕ S → List Position → Type 0
AreCounts direction counts positions = (line : ℕ) → line_count_of counts line ≡ number_on direction line positions
