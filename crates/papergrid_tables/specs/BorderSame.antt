-- When two border tables hold the same.
use Rattle.std.specs.Prelude.{◌≡◌, ℕ, Bool, true, List, Option}
use Rattle.std.specs.Cmp.Lexicographic.{pointwise}
use Rattle.std.specs.Option.{option_eq}
use Rattle.papergrid_values.specs.Borders.{frame_parts}
use Rattle.papergrid_values.specs.Lines.{horizontal_parts, vertical_parts}
use Rattle.papergrid_values.specs.declared.position.Position.{Position}
use Rattle.papergrid_tables.specs.BorderParts.{BorderParts}

module _ {T : Type 0} (eq : T → T → Bool) where
  -- the same parts are set, to equal values
  abbrev pub same_parts : List (Option T) → List (Option T) → Bool
  same_parts xs ys = pointwise (option_eq eq) xs ys

  -- the same default and the same frame, the same line at each number, and the same edge and corner at each position.
  -- This means equal values, or none on either side
  pub record HoldTheSameBorders (s t : BorderParts T) : Type 0 where
    pub global : option_eq eq s.global t.global ≡ true
    pub frame : same_parts (frame_parts s.frame) (frame_parts t.frame) ≡ true
    pub horizontal_line : (n : ℕ) → option_eq (λ l m. same_parts (horizontal_parts l) (horizontal_parts m)) (s.horizontal_line n) (t.horizontal_line n) ≡ true
    pub vertical_line : (n : ℕ) → option_eq (λ l m. same_parts (vertical_parts l) (vertical_parts m)) (s.vertical_line n) (t.vertical_line n) ≡ true
    pub horizontal_edge : (p : Position) → option_eq eq (s.horizontal_edge p) (t.horizontal_edge p) ≡ true
    pub vertical_edge : (p : Position) → option_eq eq (s.vertical_edge p) (t.vertical_edge p) ≡ true
    pub corner : (p : Position) → option_eq eq (s.corner p) (t.corner p) ≡ true
