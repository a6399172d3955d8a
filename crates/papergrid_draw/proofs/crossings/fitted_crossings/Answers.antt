use Rattle.std.proofs.Common.{◌≡◌, sym, subst, refl, inl, inr, ℕ, ◌+◌, ◌^◌, ◌⊎◌, [], arith}
use Rattle.std.proofs.lemmas.Bool.{cases_lt, false≢true}
use Rattle.std.proofs.lemmas.Result.{err_from_is_err_and}
use Rattle.papergrid_draw.specs.Drawings.{layout_of}
use Rattle.papergrid_draw.specs.Tiles.{IsTileFault}
use Rattle.papergrid_draw.specs.declared.error.DrawError.TheVariants.{Memory, NoRoom, NotTiled, OutOfTable, TooLarge, Write}
use Rattle.papergrid_draw.specs.declared.error.DrawError.{DrawError}
use Rattle.papergrid_config.specs.declared.spanned.SpannedConfig.{SpannedConfig}
use Rattle.papergrid_draw.specs.Crossings.{FitCrossings, IsFitFault, bare_drawing}
use Rattle.papergrid_draw.proofs.CrossingLemmas.{fit-all, fitted-empty}
use Rattle.papergrid_draw.proofs.crossings.fitted_crossings.Goals as goal
use Rattle.papergrid_draw.proofs.crossings.fitted_crossings.Goals.{then-shape-eq0-via-then-shape-eq0, then-shape-eq0-via-else-shape-eq0+then-shape-eq0-2}

-- the faults of tiling are among them
tile-fault : (config : SpannedConfig) (shape : ℕ × ℕ) (e : DrawError) → IsTileFault (layout_of (bare_drawing config shape)) e → IsFitFault config shape e
tile-fault config shape (OutOfTable p) fault = fault
tile-fault config shape (NotTiled p) fault = fault
tile-fault config shape (NoRoom p) fault = fault
tile-fault config shape TooLarge fault = absurd fault
tile-fault config shape (Memory e) fault = fault
tile-fault config shape Write fault = fault

pub returns-in_err-check_tiles-clause-err : goal.returns-in_err-check_tiles-clause-err
returns-in_err-check_tiles-clause-err c =
    let config = c.args.config.now in
    let shape = c.args.shape in
    let p = err_from_is_err_and c.from_residual.result c.from_residual.ensures.1 in
    let fault = tile-fault config shape c.in_err-check_tiles.field-0.0 (c.in_err-check_tiles.ensures.err (layout_of (bare_drawing config shape)) refl refl) in
    rw (p.1, p.2) fault

pub returns-then-not-can_be_counted-clause-err : goal.returns-then-not-can_be_counted-clause-err
returns-then-not-can_be_counted-clause-err c =
    let shape = c.args.shape in (
      c.in_ok-check_tiles.ensures.ok (layout_of (bare_drawing c.args.config.now shape)) refl refl,
      elim (cases_lt (shape.0 + 1) (2 ^ 64)) [
        | inr rows ↦ inl rows
        | inl rows ↦ elim (cases_lt (shape.1 + 1) (2 ^ 64)) [
          | inr columns ↦ inr columns
          | inl columns ↦ absurd (false≢true (c.if-not-can_be_counted.ensures.1 (rows, columns)))
        ]
      ],
    )

pub returns-then-shape-eq0-clause-ok : goal.returns-then-shape-eq0-clause-ok
returns-then-shape-eq0-clause-ok c =
    let config = c.args.config.now in
    let shape = c.args.shape in
    let none : (shape.0 ≡ 0) ⊎ (shape.1 ≡ 0) = elim c.then-shape-eq0.branch [
      | then-shape-eq0-via-then-shape-eq0 w ↦ inl w.if-shape-eq0.true
      | then-shape-eq0-via-else-shape-eq0+then-shape-eq0-2 w ↦ inr w.if-shape-eq0-2.true
    ] in
    subst (FitCrossings config shape c.args.junctions.now) (sym c.new.ensures.items)
    (fit-all c.args.junctions.now [] config shape (fitted-empty config shape c.args.junctions.now (shape.0 + 1) none)
    (c.in_ok-check_tiles.ensures.ok _ refl refl) (c.if-not-can_be_counted.ensures.0 refl))

pub fit_lines-requires-clause-tiled : goal.fit_lines-requires-clause-tiled
fit_lines-requires-clause-tiled c = c.in_ok-check_tiles.ensures.ok _ refl refl

pub fit_lines-requires-clause-some : goal.fit_lines-requires-clause-some
fit_lines-requires-clause-some c = (omega (arith, c.if-shape-eq0.false), omega (arith, c.if-shape-eq0-2.false))

pub returns-clause-ok : goal.returns-clause-ok
returns-clause-ok c =
    fit-all c.args.junctions.now c.in_ok-fit_lines.field-0.items c.args.config.now c.args.shape c.in_ok-fit_lines.ensures
    (c.in_ok-check_tiles.ensures.ok _ refl refl) (c.if-not-can_be_counted.ensures.0 refl)
