-- The places of a walk, row by row.
use Rattle.std.proofs.Common.{◌≡◌, ap, sym, refl, ℕ, ◌+◌, ◌-◌, ◌<◌, List, [], ◌∷◌, ◌++◌, map, arith}
use Rattle.std.specs.List.{range_with_len, flat_map}
use Rattle.papergrid_values.specs.declared.entity.Entity.{Entity}
use Rattle.papergrid_values.specs.declared.entity.Entity.TheVariants.{Global, Column}
use Rattle.papergrid_values.specs.Entities.{positions_in, row_from, rows_from}

-- the numbers from a on begin with a
range-more : (a n : ℕ) → a < n → range_with_len a (n - a) ≡ a ∷ range_with_len (a + 1) (n - (a + 1))
range-more a n less = grind arith

-- the rows from one on are its row and the rows after it
pub rows_from-more : (entity : Entity) (cols rows row : ℕ) → row < rows
    → row_from entity cols row 0 ++ rows_from entity cols rows (row + 1) ≡ rows_from entity cols rows row
rows_from-more entity cols rows row less =
    sym (ap (flat_map (λ r. row_from entity cols r 0)) (range-more row rows less))

flat_map-single : {X A : Type 0} (f : X → A) (xs : List X) → flat_map (λ x. f x ∷ []) xs ≡ map f xs
flat_map-single f [] = refl
flat_map-single f (x ∷ xs) = ap (λ ys. f x ∷ ys) (flat_map-single f xs)

pub rows_from-global : (rows cols : ℕ) → rows_from Global cols rows 0 ≡ positions_in Global rows cols
rows_from-global rows cols = grind arith

pub rows_from-column : (rows col : ℕ) → rows_from (Column col) 1 rows 0 ≡ positions_in (Column col) rows 1
rows_from-column rows col = grind (arith, flat_map-single)
