-- The border table that calls make has them as its history, and no other does.
use Rattle.std.proofs.Common.{◌≡◌, ℕ, Bool, true, false, cond, List, [], ◌∷◌, ◌++◌, Option, Some, None, refl, sym, ◌∙◌, eqb, arith, rules}
use Rattle.std.specs.Prelude.{◌||◌, flat_map, reverse, is_some}
use Rattle.std.specs.Cmp.{nat_cmp_total, unsigned_tied}
use Rattle.std.specs.List.{list_any}
use Rattle.std.specs.Option.{option_or}
use Rattle.std.specs.Ordering.{eq_by_cmp, nat_cmp}
use Rattle.std.specs.declared.cmp.Ordering.{Ordering}
use Rattle.std.specs.FinMap.{nat_cmp-IsAntisymmetric, same_map}
use Rattle.std.proofs.lemmas.Bool.{false≢true, or_left, or_right, eqb-true, eq-eqb}
use Rattle.papergrid_values.specs.declared.direction.Direction.{Direction}
use Rattle.papergrid_values.specs.declared.direction.Direction.TheVariants.{Columns, Rows}
use Rattle.papergrid_values.specs.declared.position.Position.{Position}
use Rattle.papergrid_tables.specs.BorderCalls.{at_position, below, right_of, BorderCall, InsertBorder, RemoveBorder, InsertHorizontalLine, RemoveHorizontalLine, InsertVerticalLine, RemoveVerticalLine, Clear, is_edge_of, is_corner_of}
use Rattle.papergrid_tables.specs.StoredBorders.{StoredBorders, HasBorderHistory, parts_of_borders}
use Rattle.papergrid_values.specs.MapKeys.{position_cmp}
use Rattle.papergrid_tables.proofs.Made.{borders_made, named_columns, named_positions, named_rows}
use Rattle.papergrid_tables.specs.BorderParts.{BorderParts, parts_after_call, no_parts, parts_from}
use Rattle.papergrid_values.proofs.TabulatedLemmas.{tabulates}
use Rattle.papergrid_values.proofs.KeyLemmas.{exact_position, exact_positions, position_ties, position_total}
use Rattle.papergrid_tables.specs.ForProofs.LineTested.{exact_number}

-- ---- what calls write, they name

any_append : {A : Type 0} (test : A → Bool) (xs ys : List A) → list_any test (xs ++ ys) ≡ (list_any test xs || list_any test ys)
any_append test [] ys = refl
any_append test (x ∷ xs) ys = elim (test x) as (λ b. (b || list_any test (xs ++ ys)) ≡ ((b || list_any test xs) || list_any test ys)) [ true ↦ refl | false ↦ any_append test xs ys ]

or_with_next : (m a n : Bool) → (m || a) ≡ true → (a ≡ true → n ≡ true) → (m || n) ≡ true
or_with_next true a n h next = refl
or_with_next false a n h next = next h

-- where nothing is at first, and a call leaves something only where it names the part or something was there
module _ {T K A : Type 0} (R : K → K → Ordering) (stored : BorderParts T → K → Option A) (named : BorderCall T → List K) (none : (q : K) → is_some (stored no_parts q) ≡ true → ⊥)
    (names : (call : BorderCall T) (old : BorderParts T) (q : K) → is_some (stored (parts_after_call call old) q) ≡ true → (list_any (eq_by_cmp R q) (named call) || is_some (stored old q)) ≡ true) where
  all_named : (calls : List (BorderCall T)) (q : K) → is_some (stored (parts_from calls) q) ≡ true → list_any (eq_by_cmp R q) (flat_map named calls) ≡ true
  all_named [] q h = absurd (none q h)
  all_named (call ∷ older) q h = grind (arith, any_append, or_with_next, all_named older q)

-- what is there where a test would drop it
kept_there : {A : Type 0} (b : Bool) (old : Option A) → is_some (cond b None old) ≡ true → is_some old ≡ true
kept_there true old h = absurd (false≢true h)
kept_there false old h = h

gained_named : {A : Type 0} (part old : Option A) (m : Bool) → is_some (option_or part old) ≡ true → (is_some part ≡ true → m ≡ true) → (m || is_some old) ≡ true
gained_named None old m h named = or_right m (is_some old) h
gained_named (Some v) old m h named = or_left m (is_some old) (named refl)

number_named : (k q : ℕ) → eqb k q ≡ true → list_any (eq_by_cmp nat_cmp q) (k ∷ []) ≡ true
number_named k q h = or_left _ _ (unsigned_tied q k ∙ eq-eqb q k (sym (eqb-true k q h)))

line_named : {L : Type 0} (k q : ℕ) (line : L) (old : Option L) → is_some (cond (eqb k q) (Some line) old) ≡ true
    → (list_any (eq_by_cmp nat_cmp q) (k ∷ []) || is_some old) ≡ true
line_named k q line old h = grind (arith, or_left, number_named, or_right)

-- whether a line is set at an index: a horizontal one (Rows), or a vertical one; and which lines a call names
module _ {T : Type 0} where
  abbrev has_line_at : Direction → BorderParts T → ℕ → Bool
  has_line_at Rows parts k = is_some (parts.horizontal_line k)
  has_line_at Columns parts k = is_some (parts.vertical_line k)

  abbrev named_lines : Direction → BorderCall T → List ℕ
  named_lines Rows = named_rows
  named_lines Columns = named_columns

  line_at_named : (direction : Direction) (call : BorderCall T) (old : BorderParts T) (q : ℕ) → has_line_at direction (parts_after_call call old) q ≡ true
      → (list_any (eq_by_cmp nat_cmp q) (named_lines direction call) || has_line_at direction old q) ≡ true
  line_at_named Rows (InsertHorizontalLine k line) old q h = line_named k q line (old.horizontal_line q) h
  line_at_named Columns (InsertVerticalLine k line) old q h = line_named k q line (old.vertical_line q) h
  line_at_named Rows (RemoveHorizontalLine k) old q h = kept_there (eqb k q) (old.horizontal_line q) h
  line_at_named Columns (RemoveVerticalLine k) old q h = kept_there (eqb k q) (old.vertical_line q) h
  line_at_named Rows Clear old q h = absurd (false≢true h)
  line_at_named Columns Clear old q h = absurd (false≢true h)
  line_at_named Rows call old q h = h
  line_at_named Columns call old q h = h

-- a part at a position: it is written there alone
set_at : {T : Type 0} (p q : Position) (part : Option T) → is_some (at_position p q part) ≡ true → eq_by_cmp position_cmp q p ≡ true
set_at p q part h = grind (arith, position_ties, false≢true)

-- it is one of the four that a border names
module _ (cell q : Position) where
  abbrev at_one : Bool
  at_one = list_any (eq_by_cmp position_cmp q) (cell ∷ below cell ∷ right_of cell ∷ below (right_of cell) ∷ [])

  at_cell : {T : Type 0} (part : Option T) → is_some (at_position cell q part) ≡ true → at_one ≡ true
  at_cell part h = or_left _ _ (set_at cell q part h)

  at_below : {T : Type 0} (part : Option T) → is_some (at_position (below cell) q part) ≡ true → at_one ≡ true
  at_below part h = or_right _ _ (or_left _ _ (set_at (below cell) q part h))

  at_right : {T : Type 0} (part : Option T) → is_some (at_position (right_of cell) q part) ≡ true → at_one ≡ true
  at_right part h = or_right _ _ (or_right _ _ (or_left _ _ (set_at (right_of cell) q part h)))

  at_opposite : {T : Type 0} (part : Option T) → is_some (at_position (below (right_of cell)) q part) ≡ true → at_one ≡ true
  at_opposite part h = search (rules, or_right, or_left, set_at)

either_set : {T : Type 0} (a b : Option T) (m : Bool) → is_some (option_or a b) ≡ true → (is_some a ≡ true → m ≡ true) → (is_some b ≡ true → m ≡ true) → m ≡ true
either_set None b m h first next = next h
either_set (Some v) b m h first next = first refl

-- the edges of horizontal lines (Rows), or of vertical ones
abbrev edges_of : {T : Type 0} → Direction → BorderParts T → Position → Option T
edges_of Rows parts = parts.horizontal_edge
edges_of Columns parts = parts.vertical_edge

edge_named : {T : Type 0} (direction : Direction) (call : BorderCall T) (old : BorderParts T) (q : Position) → is_some (edges_of direction (parts_after_call call old) q) ≡ true
    → (list_any (eq_by_cmp position_cmp q) (named_positions call) || is_some (edges_of direction old q)) ≡ true
edge_named Rows (InsertBorder p b) old q h = search (rules, gained_named, either_set, at_cell, at_below)
edge_named Columns (InsertBorder p b) old q h = search (rules, gained_named, either_set, at_cell, at_right)
edge_named Rows (RemoveBorder p) old q h = kept_there (is_edge_of Rows p q) (old.horizontal_edge q) h
edge_named Columns (RemoveBorder p) old q h = kept_there (is_edge_of Columns p q) (old.vertical_edge q) h
edge_named Rows Clear old q h = absurd (false≢true h)
edge_named Columns Clear old q h = absurd (false≢true h)
edge_named Rows call old q h = h
edge_named Columns call old q h = h

corner_named : {T : Type 0} (call : BorderCall T) (old : BorderParts T) (q : Position) → is_some ((parts_after_call call old).corner q) ≡ true
    → (list_any (eq_by_cmp position_cmp q) (named_positions call) || is_some (old.corner q)) ≡ true
corner_named (InsertBorder p b) old q h = search (rules, gained_named, either_set, at_cell, at_right, at_below, at_opposite)
corner_named (RemoveBorder p) old q h = kept_there (is_corner_of p q) (old.corner q) h
corner_named Clear old q h = absurd (false≢true h)
corner_named call old q h = h

-- ---- the table

module _ {T : Type 0} where
  pub borders_made_history : (calls : List (BorderCall T)) → HasBorderHistory calls (borders_made calls)
  borders_made_history calls =
      let older = reverse calls in
      λ i. record {
        global = (parts_from older).global;
        frame = (parts_from older).frame;
        horizontal_line = λ n. tabulates nat_cmp_total exact_number (parts_from older).horizontal_line (flat_map named_rows older) (all_named nat_cmp (λ (parts : BorderParts T). parts.horizontal_line) named_rows (λ q h. false≢true h) (line_at_named Rows) older) n i;
        vertical_line = λ n. tabulates nat_cmp_total exact_number (parts_from older).vertical_line (flat_map named_columns older) (all_named nat_cmp (λ (parts : BorderParts T). parts.vertical_line) named_columns (λ q h. false≢true h) (line_at_named Columns) older) n i;
        horizontal_edge = λ p. tabulates position_total exact_position (parts_from older).horizontal_edge (flat_map named_positions older) (all_named position_cmp (λ (parts : BorderParts T). parts.horizontal_edge) named_positions (λ q h. false≢true h) (edge_named Rows) older) p i;
        vertical_edge = λ p. tabulates position_total exact_position (parts_from older).vertical_edge (flat_map named_positions older) (all_named position_cmp (λ (parts : BorderParts T). parts.vertical_edge) named_positions (λ q h. false≢true h) (edge_named Columns) older) p i;
        corner = λ p. tabulates position_total exact_position (parts_from older).corner (flat_map named_positions older) (all_named position_cmp (λ (parts : BorderParts T). parts.corner) named_positions (λ q h. false≢true h) corner_named older) p i;
      }

  -- tables that have the same parts are the same
  pub same_borders : (s t : StoredBorders T) → parts_of_borders s ≡ parts_of_borders t → s ≡ t
  same_borders s t same = λ i. record {
    global = (same i).global;
    frame = (same i).frame;
    horizontal_lines = same_map nat_cmp_total nat_cmp-IsAntisymmetric s.horizontal_lines t.horizontal_lines (λ n j. (same j).horizontal_line n) i;
    vertical_lines = same_map nat_cmp_total nat_cmp-IsAntisymmetric s.vertical_lines t.vertical_lines (λ n j. (same j).vertical_line n) i;
    horizontal_edges = same_map position_total exact_positions s.horizontal_edges t.horizontal_edges (λ p j. (same j).horizontal_edge p) i;
    vertical_edges = same_map position_total exact_positions s.vertical_edges t.vertical_edges (λ p j. (same j).vertical_edge p) i;
    corners = same_map position_total exact_positions s.corners t.corners (λ p j. (same j).corner p) i;
  }

  pub border_history : (calls : List (BorderCall T)) (stored : StoredBorders T) → HasBorderHistory calls stored → stored ≡ borders_made calls
  border_history calls stored told = same_borders stored (borders_made calls) (told ∙ sym (borders_made_history calls))
