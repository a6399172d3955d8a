use Rattle.std.proofs.Common.{ℕ, ◌≡◌, ◌∙◌, ◌<◌, ◌-◌, get_or, sym, subst, arith}
use Rattle.std.proofs.lemmas.Bool.{false≢true}
use Rattle.papergrid_values.specs.declared.direction.Direction.TheVariants.{Columns, Rows}
use Rattle.papergrid_values.specs.declared.position.Position.{Position}
use Rattle.papergrid_config.specs.Grids.{spanned_grid}
use Rattle.papergrid_config.specs.declared.spanned.SpannedConfig.{SpannedConfig}
use Rattle.papergrid_draw.specs.ForProofs.Pages.{drawing_of}
use Rattle.papergrid_draw.proofs.SlotLemmas.{found-above, found-itself, found-left}
use Rattle.papergrid_draw.proofs.page.Frame.owner.Goals as goal

-- a cell's rows reach as far by one configuration as by another that is the same
abbrev reaches_down : Position → ℕ → SpannedConfig → Type 0
reaches_down above row config = row - above.row < (spanned_grid config).span Rows above

abbrev reaches_right : Position → ℕ → SpannedConfig → Type 0
reaches_right left col config = col - left.col < (spanned_grid config).span Columns left

-- a column is the first, or comes past it
first-not_past : (col : ℕ) → col ≡ 0 → 0 < col → ⊥
first-not_past col first past = omega (arith, first, past)

past-first : (col : ℕ) → (col ≡ 0 → ⊥) → 0 < col
past-first col other = omega (arith, other)

pub returns-then-reaches_row : goal.returns-then-reaches_row
returns-then-reaches_row g c = λ texts are row_in col_in.
    let position = c.args.position in
    let slot = c.index-slots-position.result in
    let above : Position = (get_or c.args.slots.now position.col slot).owner in
    let reach = c.reaches_row.ensures.0 c.if-reaches_row.true in
    found-above (drawing_of c.args.self.now.table.now texts) c.args.self.now.tiled position.row position.col c.args.slots.now (row_in, col_in) are slot reach.0
    (subst (reaches_down above position.row) c.args.self.now.read.config_is reach.1)

pub returns-then-position-eq0 : goal.returns-then-position-eq0
returns-then-position-eq0 g c = λ texts are row_in col_in.
    let position = c.args.position in
    let upper = c.index-slots-position.result in
    let above : Position = (get_or c.args.slots.now position.col upper).owner in
    found-itself (drawing_of c.args.self.now.table.now texts) c.args.self.now.tiled position.row position.col c.args.slots.now (row_in, col_in) are upper upper
    (λ reach. let yes = c.reaches_row.ensures.1 (reach.0, subst (reaches_down above position.row) (sym c.args.self.now.read.config_is) reach.1) in
    false≢true (sym c.if-reaches_row.false ∙ yes))
    (λ begun reach. absurd (first-not_past position.col c.if-position-eq0.true begun))

pub returns-then-reaches_column : goal.returns-then-reaches_column
returns-then-reaches_column g c = λ texts are row_in col_in.
    let position = c.args.position in
    let slot = c.index-slots-position-2.result in
    let left : Position = (get_or c.args.slots.now (position.col - 1) slot).owner in
    let reach = c.reaches_column.ensures.0 c.if-reaches_column.true in
    found-left (drawing_of c.args.self.now.table.now texts) c.args.self.now.tiled position.row position.col c.args.slots.now (row_in, col_in) are slot (past-first position.col c.if-position-eq0.false)
    (subst (reaches_right left position.col) c.args.self.now.read.config_is reach.2)

pub returns : goal.returns
returns g c = λ texts are row_in col_in.
    let position = c.args.position in
    let upper = c.index-slots-position.result in
    let slot = c.index-slots-position-2.result in
    let above : Position = (get_or c.args.slots.now position.col upper).owner in
    let left : Position = (get_or c.args.slots.now (position.col - 1) slot).owner in
    found-itself (drawing_of c.args.self.now.table.now texts) c.args.self.now.tiled position.row position.col c.args.slots.now (row_in, col_in) are upper slot
    (λ reach. let yes = c.reaches_row.ensures.1 (reach.0, subst (reaches_down above position.row) (sym c.args.self.now.read.config_is) reach.1) in
    false≢true (sym c.if-reaches_row.false ∙ yes))
    (λ begun reach. let yes = c.reaches_column.ensures.1 (reach.0, reach.1, subst (reaches_right left position.col) (sym c.args.self.now.read.config_is) reach.2) in
    false≢true (sym c.if-reaches_column.false ∙ yes))
