-- Values with the same history of settings are equal, where each value equals itself.
use Rattle.std.proofs.Common.{◌≡◌, Bool, true, ◌&&◌, Option, Some, None, refl, sym, subst, ◌∙◌}
use Rattle.std.specs.Cmp.{and_equiv, nat_eq_equiv}
use Rattle.std.specs.Cmp.Lexicographic.{on_texts_equal}
use Rattle.std.specs.contracts.prelude.OptionPartialEq.TheImpl as option
use Rattle.std.proofs.lemmas.Bool.{and_from}
use Rattle.papergrid_values.specs.declared.sides.Sides.{Sides}
use Rattle.papergrid_values.specs.declared.alignment.AlignmentHorizontal.{AlignmentHorizontal}
use Rattle.papergrid_values.specs.declared.alignment.AlignmentHorizontal.TheVariants as horizontal
use Rattle.papergrid_values.specs.declared.alignment.AlignmentVertical.{AlignmentVertical}
use Rattle.papergrid_values.specs.declared.alignment.AlignmentVertical.TheVariants as vertical
use Rattle.papergrid_values.specs.declared.ansi_buf.ANSIBuf.{ANSIBuf}
use Rattle.papergrid_values.specs.declared.indent.Indent.{Indent}
use Rattle.papergrid_values.specs.declared.offset.Offset.{Offset}
use Rattle.papergrid_values.specs.declared.offset.Offset.TheVariants.{Start, End}
use Rattle.papergrid_values.specs.contracts.alignment.AlignmentHorizontalPartialEq.TheImpl as alignment_horizontal
use Rattle.papergrid_values.specs.contracts.alignment.AlignmentVerticalPartialEq.TheImpl as alignment_vertical
use Rattle.papergrid_values.specs.contracts.ansi_buf.ANSIBuf.{the_row}
use Rattle.papergrid_values.specs.contracts.ansi_buf.ANSIBufPartialEq.TheImpl as color
use Rattle.papergrid_values.specs.contracts.indent.IndentPartialEq.TheImpl as indent
use Rattle.papergrid_values.specs.contracts.offset.OffsetPartialEq.TheImpl as offset

module _ {T : Type 0} (eq : T → T → Bool) where
  -- side by side
  abbrev pub sides_eq : Sides T → Sides T → Bool
  sides_eq s t = eq s.top t.top && (eq s.bottom t.bottom && (eq s.left t.left && eq s.right t.right))

module _ {T : Type 0} (eq : T → T → Bool) (itself : (v : T) → eq v v ≡ true) where
  pub same_sides : (s : Sides T) → sides_eq eq s s ≡ true
  same_sides s = and_from _ _ (itself s.top) (and_from _ _ (itself s.bottom) (and_from _ _ (itself s.left) (itself s.right)))

  -- values that are the same as a third
  pub equal_values : {u v w : T} → u ≡ w → v ≡ w → eq u v ≡ true
  equal_values {u = u} one other = subst (λ v. eq u v ≡ true) (one ∙ sym other) (itself u)

-- ---- each kind of value equals itself

pub same_indent : (v : Indent) → indent.ghosts.eq v v ≡ true
same_indent v = and_from _ _ (nat_eq_equiv.refl v.fill) (nat_eq_equiv.refl v.size)

pub same_horizontal : (v : AlignmentHorizontal) → alignment_horizontal.ghosts.eq v v ≡ true
same_horizontal horizontal.Left = refl
same_horizontal horizontal.Center = refl
same_horizontal horizontal.Right = refl

pub same_vertical : (v : AlignmentVertical) → alignment_vertical.ghosts.eq v v ≡ true
same_vertical vertical.Top = refl
same_vertical vertical.Center = refl
same_vertical vertical.Bottom = refl

pub same_offset : (v : Offset) → offset.ghosts.eq v v ≡ true
same_offset (Start n) = nat_eq_equiv.refl n
same_offset (End n) = nat_eq_equiv.refl n

pub same_color : (v : ANSIBuf) → color.ghosts.eq v v ≡ true
same_color v = (and_equiv (on_texts_equal (λ (c : ANSIBuf). c.0)) (on_texts_equal (λ (c : ANSIBuf). c.1))).refl v

-- of colours that may be set
abbrev pub optional_eq : Option ANSIBuf → Option ANSIBuf → Bool
optional_eq = (option.ghosts the_row color.ghosts color.dict).eq

pub same_optional : (v : Option ANSIBuf) → optional_eq v v ≡ true
same_optional None = refl
same_optional (Some v) = same_color v
