-- Why a table is not drawn, by what was found.
use Rattle.std.proofs.Common.{◌≡◌, ◌≢◌, ◌⊎◌, ◌^◌, ◌<◌, ◌≤◌, ℕ, inl, inr, Option, Some, None, Result, Ok, Err, sym, subst, arith}
use Rattle.std.specs.declared.alloc.AllocError.{AllocError}
use Rattle.std.specs.Option.{SomeIff, ok_or}
use Rattle.std.proofs.lemmas.Bool.{cases_lt}
use Rattle.papergrid_values.specs.declared.position.Position.{Position}
use Rattle.papergrid_draw.specs.Drawings.{Drawing, layout_of}
use Rattle.papergrid_draw.specs.Faults.{AllHaveRoom, IsDrawable, whole_height}
use Rattle.papergrid_draw.specs.Margins.{whole_width}
use Rattle.papergrid_draw.specs.Tiles.{IsTileFault, IsTiled}
use Rattle.papergrid_draw.specs.ForProofs.Sheets.{IsRoomFault}
use Rattle.papergrid_draw.specs.declared.error.DrawError.{DrawError}
use Rattle.papergrid_draw.specs.declared.error.DrawError.TheVariants.{Memory, NoRoom, NotTiled, OutOfTable, TooLarge, Write}
use Rattle.papergrid_draw.specs.Faults.{IsDrawFault}

-- why it is not drawn, before anything is written
abbrev pub IsDrawRefusal : Drawing → DrawError → Type 0
IsDrawRefusal d e = IsDrawFault d e × (e ≢ Write)

pub tile-refusal : (d : Drawing) (e : DrawError) → IsTileFault (layout_of d) e → IsDrawRefusal d e
tile-refusal d (OutOfTable p) is = (is, λ same. cc)
tile-refusal d (NotTiled p) is = (is, λ same. cc)
tile-refusal d (NoRoom p) is = absurd is
tile-refusal d TooLarge is = absurd is
tile-refusal d (Memory e) is = (tt, λ same. cc)
tile-refusal d Write is = absurd is

pub memory-refusal : (d : Drawing) (e : AllocError) → IsDrawRefusal d (Memory e)
memory-refusal d e = (tt, λ same. cc)

pub room-refusal : (d : Drawing) (e : DrawError) → IsTiled (layout_of d) → IsRoomFault d e → IsDrawRefusal d e
room-refusal d (OutOfTable p) tiled is = absurd is
room-refusal d (NotTiled p) tiled is = absurd is
room-refusal d (NoRoom p) tiled is = ((tiled, is), λ same. cc)
room-refusal d TooLarge tiled is = absurd is
room-refusal d (Memory e) tiled is = (tt, λ same. cc)
room-refusal d Write tiled is = absurd is

-- no width was found
pub large-refusal : (d : Drawing) (found : Option ℕ) (e : DrawError) → (d.shape.0 ≢ 0) × (d.shape.1 ≢ 0) → IsTiled (layout_of d) → AllHaveRoom d →
    SomeIff found ((whole_width d < 2 ^ 64) × (whole_height d < 2 ^ 64)) (whole_width d) → Err e ≡ ok_or found TooLarge → IsDrawRefusal d e
large-refusal d None e some tiled room none at =
    let same : TooLarge ≡ e = cc in
    let large : (2 ^ 64 ≤ whole_width d) ⊎ (2 ^ 64 ≤ whole_height d) = elim (cases_lt (whole_width d) (2 ^ 64)) [
      | inl narrow ↦ elim (cases_lt (whole_height d) (2 ^ 64)) [
        | inl low ↦ absurd (none (narrow, low))
        | inr high ↦ inr high
      ]
      | inr wide ↦ inl wide
    ] in
    subst (IsDrawRefusal d) same ((tiled, room, (some.0, some.1, large)), λ other. cc)
large-refusal d (Some n) e some tiled room found at = absurd (cc)

-- a table whose width was found
pub found-drawable : (d : Drawing) (found : Option ℕ) (n : ℕ) → IsTiled (layout_of d) → AllHaveRoom d →
    SomeIff found ((whole_width d < 2 ^ 64) × (whole_height d < 2 ^ 64)) (whole_width d) → ◌≡◌ {A = Result ℕ DrawError} (Ok n) (ok_or found TooLarge) → IsDrawable d
found-drawable d None n tiled room none at = absurd (cc)
found-drawable d (Some m) n tiled room some at = record {
  tiled = tiled;
  room = room;
  small = λ large. elim large.2 [ inl wide ↦ (let narrow = some.0.0 in omega (arith, narrow, wide)) | inr high ↦ (let low = some.0.1 in omega (arith, low, high)) ];
}

-- a table without rows or without columns
pub empty-drawable : (d : Drawing) → (d.shape.0 ≡ 0) ⊎ (d.shape.1 ≡ 0) → IsDrawable d
empty-drawable d none = record {
  tiled = record {
    within = λ p ends. outside p ends.0.row_in ends.0.col_in;
    once = λ q inside. absurd (outside q inside.0 inside.1);
  };
  room = λ p lacks. outside p lacks.is_cell.row_in lacks.is_cell.col_in;
  small = λ large. elim none [ inl rows ↦ large.0 rows | inr columns ↦ large.1 columns ];
}
  where
    outside : (p : Position) → p.row < d.shape.0 → p.col < d.shape.1 → ⊥
    outside p row_in col_in = elim none [ inl rows ↦ omega (arith, row_in, rows) | inr columns ↦ omega (arith, col_in, columns) ]

-- the width that was found
pub width-found : (found : Option ℕ) (whole n : ℕ) (P : Type 0) → SomeIff found P whole → ◌≡◌ {A = Result ℕ DrawError} (Ok n) (ok_or found TooLarge) → n ≡ whole
width-found None whole n P none at = absurd (cc)
width-found (Some m) whole n P some at = let same : n ≡ m = cc in subst (λ k. k ≡ whole) (sym same) some.1
