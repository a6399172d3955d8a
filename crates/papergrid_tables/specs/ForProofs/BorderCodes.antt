-- Codes of what border tables hold, by which a proof tells values apart.
use Rattle.std.specs.Prelude.{Option, refl}
use Rattle.std.specs.Ordering.{nat_cmp}
use Rattle.std.specs.FinMap.{FinMap, code}
use Rattle.std.specs.Coded.{Coded, code_by, coded×, coded_ℕ, coded_option}
use Rattle.papergrid_values.specs.MapKeys.{position_cmp, coded_position}
use Rattle.papergrid_tables.specs.StoredBorders.{StoredBorders}
use Rattle.papergrid_values.specs.declared.borders.Borders.{Borders}
use Rattle.papergrid_values.specs.declared.horizontal_line.HorizontalLine.{HorizontalLine}
use Rattle.papergrid_values.specs.declared.vertical_line.VerticalLine.{VerticalLine}

-- a code of frames
abbrev pub borders_code : {T : Type 0} → Coded T → Coded (Borders T)
borders_code {T} c =
    code_by (Option T × (Option T × (Option T × (Option T × (Option T × (Option T × (Option T × (Option T × (Option T × (Option T × (Option T × (Option T × (Option T × (Option T × Option T))))))))))))))
    (coded× (coded_option c) (coded× (coded_option c) (coded× (coded_option c) (coded× (coded_option c) (coded× (coded_option c) (coded× (coded_option c) (coded× (coded_option c) (coded× (coded_option c) (coded× (coded_option c) (coded× (coded_option c) (coded× (coded_option c) (coded× (coded_option c) (coded× (coded_option c) (coded× (coded_option c) (coded_option c)))))))))))))))
    (λ r. (r.top, (r.top_left, (r.top_right, (r.top_intersection, (r.bottom, (r.bottom_left, (r.bottom_right, (r.bottom_intersection, (r.horizontal, (r.vertical, (r.intersection, (r.left, (r.left_intersection, (r.right, r.right_intersection)))))))))))))))
    (λ p. record { top = p.0; top_left = p.1.0; top_right = p.1.1.0; top_intersection = p.1.1.1.0; bottom = p.1.1.1.1.0; bottom_left = p.1.1.1.1.1.0; bottom_right = p.1.1.1.1.1.1.0; bottom_intersection = p.1.1.1.1.1.1.1.0; horizontal = p.1.1.1.1.1.1.1.1.0; vertical = p.1.1.1.1.1.1.1.1.1.0; intersection = p.1.1.1.1.1.1.1.1.1.1.0; left = p.1.1.1.1.1.1.1.1.1.1.1.0; left_intersection = p.1.1.1.1.1.1.1.1.1.1.1.1.0; right = p.1.1.1.1.1.1.1.1.1.1.1.1.1.0; right_intersection = p.1.1.1.1.1.1.1.1.1.1.1.1.1.1 })
    (λ _. refl)

-- four parts of a line
abbrev LineParts : Type 0 → Type 0
LineParts T = Option T × (Option T × (Option T × Option T))

abbrev line_parts_code : {T : Type 0} → Coded T → Coded (LineParts T)
line_parts_code c = coded× (coded_option c) (coded× (coded_option c) (coded× (coded_option c) (coded_option c)))

-- a code of horizontal lines
abbrev pub horizontal_line_code : {T : Type 0} → Coded T → Coded (HorizontalLine T)
horizontal_line_code {T} c = code_by (LineParts T) (line_parts_code c) (λ r. (r.main, (r.intersection, (r.left, r.right))))
    (λ p. record { main = p.0; intersection = p.1.0; left = p.1.1.0; right = p.1.1.1 }) (λ _. refl)

-- a code of vertical lines
abbrev pub vertical_line_code : {T : Type 0} → Coded T → Coded (VerticalLine T)
vertical_line_code {T} c = code_by (LineParts T) (line_parts_code c) (λ r. (r.main, (r.intersection, (r.top, r.bottom))))
    (λ p. record { main = p.0; intersection = p.1.0; top = p.1.1.0; bottom = p.1.1.1 }) (λ _. refl)

-- a code of what a border table holds
abbrev pub stored_borders_code : {T : Type 0} → Coded T → Coded (StoredBorders T)
stored_borders_code {T} c =
    code_by (Option T × (Borders T × (FinMap nat_cmp (HorizontalLine T) × (FinMap nat_cmp (VerticalLine T) × (FinMap position_cmp T × (FinMap position_cmp T × FinMap position_cmp T))))))
    (coded× (coded_option c) (coded× (borders_code c) (coded× (code coded_ℕ (horizontal_line_code c)) (coded× (code coded_ℕ (vertical_line_code c)) (coded× (code coded_position c) (coded× (code coded_position c) (code coded_position c)))))))
    (λ r. (r.global, (r.frame, (r.horizontal_lines, (r.vertical_lines, (r.horizontal_edges, (r.vertical_edges, r.corners)))))))
    (λ p. record { global = p.0; frame = p.1.0; horizontal_lines = p.1.1.0; vertical_lines = p.1.1.1.0; horizontal_edges = p.1.1.1.1.0; vertical_edges = p.1.1.1.1.1.0; corners = p.1.1.1.1.1.1 })
    (λ _. refl)
