-- The orders of the maps' keys, as the derives compute them.
use Rattle.std.specs.Prelude.{ℕ, Bool, ◌&&◌, ◌==◌, refl}
use Rattle.std.specs.Ordering.{nat_cmp, ordering_then}
use Rattle.std.specs.declared.cmp.Ordering.{Ordering}
use Rattle.std.specs.Coded.{Coded, code_by, coded×, coded_ℕ}
use Rattle.papergrid_values.specs.declared.position.Position.{Position}

-- by row, and then by column
abbrev pub position_cmp : Position → Position → Ordering
position_cmp p q = ordering_then (nat_cmp p.row q.row) (nat_cmp p.col q.col)

-- whether row and column are equal
abbrev pub position_eq : Position → Position → Bool
position_eq p q = p.row == q.row && p.col == q.col

-- a code of positions
abbrev pub coded_position : Coded Position
coded_position = code_by (ℕ × ℕ) (coded× coded_ℕ coded_ℕ) (λ p. (p.row, p.col)) (λ n. record { row = n.0; col = n.1 }) (λ _. refl)
