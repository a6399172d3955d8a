-- Borders of clones, where clones equal their originals.
use Rattle.std.proofs.Common.{◌≡◌, ap, Bor, arith}
use Rattle.std.specs.Prelude.{Option, Some, None, MatchOption, IsSomeAnd, option_copied}
use Rattle.std.specs.List.{AllZip}
use Rattle.papergrid_values.specs.Borders.{border_parts, frame_parts}
use Rattle.papergrid_values.specs.declared.border.Border.{Border}
use Rattle.papergrid_values.specs.declared.borders.Borders.{Borders}

-- the clone of a part that is lent is what is lent
pub lent_part : {T : Type 0} (R : T → T → Type 0) (part : Option (Bor T)) (copy : Option T)
    → ((x y : T) → R x y → y ≡ x)
    → MatchOption part (copy ≡ None) (λ x. IsSomeAnd copy (R x.now))
    → copy ≡ option_copied part
lent_part R None copy same clones = clones
lent_part R (Some x) None same clones = absurd clones
lent_part R (Some x) (Some y) same clones = ap Some (same x.now y clones)

-- ---- O is a relation of parts that are equal

module _ {T : Type 0} (O : Option T → Option T → Type 0) (same : (x y : Option T) → O x y → y ≡ x) where
  -- a border whose parts O relates
  pub cloned_border : (x y : Border T) → AllZip O (border_parts x) (border_parts y) → y ≡ x
  cloned_border x y (t, (b, (l, (r, (lt, (lb, (rt, (rb, _)))))))) = grind arith

  -- the same of a frame
  pub cloned_frame : (x y : Borders T) → AllZip O (frame_parts x) (frame_parts y) → y ≡ x
  cloned_frame x y (p0, (p1, (p2, (p3, (p4, (p5, (p6, (p7, (p8, (p9, (p10, (p11, (p12, (p13, (p14, _))))))))))))))) = grind arith
