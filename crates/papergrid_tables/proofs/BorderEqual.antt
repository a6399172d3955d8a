-- Equality of frames and lines, as the derives compare them.
use Rattle.std.proofs.Common.{◌≡◌, Bool, true, false, ◌&&◌, refl}
use Rattle.std.specs.Option.{option_eq}
use Rattle.papergrid_values.specs.declared.borders.Borders.{Borders}
use Rattle.papergrid_values.specs.declared.horizontal_line.HorizontalLine.{HorizontalLine}
use Rattle.papergrid_values.specs.declared.vertical_line.VerticalLine.{VerticalLine}
use Rattle.papergrid_tables.specs.ForProofs.BorderEq.{frame_eq, horizontal_line_eq, vertical_line_eq}

and_true : (b : Bool) → b ≡ (b && true)
and_true true = refl
and_true false = refl

pub frame_by_parts : {T : Type 0} (eq : T → T → Bool) (a b : Borders T)
    → (option_eq eq a.top b.top && (option_eq eq a.top_left b.top_left && (option_eq eq a.top_right b.top_right && (option_eq eq a.top_intersection b.top_intersection && (option_eq eq a.bottom b.bottom && (option_eq eq a.bottom_left b.bottom_left && (option_eq eq a.bottom_right b.bottom_right && (option_eq eq a.bottom_intersection b.bottom_intersection && (option_eq eq a.horizontal b.horizontal && (option_eq eq a.vertical b.vertical && (option_eq eq a.intersection b.intersection && (option_eq eq a.left b.left && (option_eq eq a.left_intersection b.left_intersection && (option_eq eq a.right b.right && (option_eq eq a.right_intersection b.right_intersection)))))))))))))))
    ≡ frame_eq eq a b
frame_by_parts eq a b = λ i. option_eq eq a.top b.top && (option_eq eq a.top_left b.top_left && (option_eq eq a.top_right b.top_right && (option_eq eq a.top_intersection b.top_intersection && (option_eq eq a.bottom b.bottom && (option_eq eq a.bottom_left b.bottom_left && (option_eq eq a.bottom_right b.bottom_right && (option_eq eq a.bottom_intersection b.bottom_intersection && (option_eq eq a.horizontal b.horizontal && (option_eq eq a.vertical b.vertical && (option_eq eq a.intersection b.intersection && (option_eq eq a.left b.left && (option_eq eq a.left_intersection b.left_intersection && (option_eq eq a.right b.right && (and_true (option_eq eq a.right_intersection b.right_intersection) i))))))))))))))

pub horizontal_by_parts : {T : Type 0} (eq : T → T → Bool) (a b : HorizontalLine T)
    → (option_eq eq a.main b.main && (option_eq eq a.intersection b.intersection && (option_eq eq a.left b.left && (option_eq eq a.right b.right))))
    ≡ horizontal_line_eq eq a b
horizontal_by_parts eq a b = λ i. option_eq eq a.main b.main && (option_eq eq a.intersection b.intersection && (option_eq eq a.left b.left && (and_true (option_eq eq a.right b.right) i)))

pub vertical_by_parts : {T : Type 0} (eq : T → T → Bool) (a b : VerticalLine T)
    → (option_eq eq a.main b.main && (option_eq eq a.intersection b.intersection && (option_eq eq a.top b.top && (option_eq eq a.bottom b.bottom))))
    ≡ vertical_line_eq eq a b
vertical_by_parts eq a b = λ i. option_eq eq a.main b.main && (option_eq eq a.intersection b.intersection && (option_eq eq a.top b.top && (and_true (option_eq eq a.bottom b.bottom) i)))
