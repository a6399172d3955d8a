-- The characters of crossings of a frame of separators.
use Rattle.std.proofs.Common.{◌≡◌, ℕ, zero, suc, true, List, [], ◌∷◌, Option, Some, None, get_or, refl, subst}
use Rattle.std.specs.Prelude.{MatchOption}
use Rattle.std.specs.List.{list_all}
use Rattle.std.proofs.lemmas.Bool.{and_parts}
use Rattle.papergrid_values.specs.Borders.{frame_parts}
use Rattle.papergrid_values.specs.declared.borders.Borders.{Borders}
use Rattle.papergrid_text.specs.Separators.{is_separator}
use Rattle.papergrid_draw.specs.Separated.{part_separates}
use Rattle.papergrid_draw.specs.Crossings.{AreOfFrame}
use Rattle.papergrid_draw.specs.declared.crossings.Junctions.{Junctions}
use Rattle.papergrid_csv.specs.Requests.{fitting_characters}
use Rattle.papergrid_csv.specs.Styles.{fitting_frame, style_frame}
use Rattle.papergrid_csv.specs.declared.style.Style.{Style}
use Rattle.papergrid_csv.specs.declared.style.Style.TheVariants.{Ascii, Blank, Dots, Extended, Markdown, Modern, Plain, Psql, Rounded, Rst, Sharp}

-- each part separates
nth-separates : (k : ℕ) (parts : List (Option ℕ)) → list_all part_separates parts ≡ true → part_separates (get_or parts k None) ≡ true
nth-separates k [] all = refl
nth-separates zero (part ∷ parts) all = (and_parts (part_separates part) (list_all part_separates parts) all).0
nth-separates (suc k) (part ∷ parts) all = nth-separates k parts (and_parts (part_separates part) (list_all part_separates parts) all).1

-- so do those of the frame of a style
pub fitting-separates : (style : Style) → list_all part_separates (frame_parts (fitting_frame style)) ≡ true
unfolding fitting_frame style_frame
fitting-separates Rounded = refl
fitting-separates Ascii = refl
fitting-separates Modern = refl
fitting-separates Sharp = refl
fitting-separates Extended = refl
fitting-separates Psql = refl
fitting-separates Markdown = refl
fitting-separates Rst = refl
fitting-separates Dots = refl
fitting-separates Blank = refl
fitting-separates Plain = refl

set-part : (part : Option ℕ) (c : ℕ) → part ≡ Some c → part_separates part ≡ true → is_separator c ≡ true
set-part part c is separates = subst (λ p. part_separates p ≡ true) is separates

separating : (frame : Borders ℕ) (junctions : Junctions) → AreOfFrame frame junctions → list_all part_separates (frame_parts frame) ≡ true →
    list_all is_separator (fitting_characters (Some junctions)) ≡ true
separating frame j are all =
    let horizontal = set-part frame.horizontal j.horizontal are.horizontal (nth-separates 8 (frame_parts frame) all) in
    let vertical = set-part frame.vertical j.vertical are.vertical (nth-separates 9 (frame_parts frame) all) in
    let top_left = set-part frame.top_left j.top_left are.top_left (nth-separates 1 (frame_parts frame) all) in
    let top_intersection = set-part frame.top_intersection j.top_intersection are.top_intersection (nth-separates 3 (frame_parts frame) all) in
    let top_right = set-part frame.top_right j.top_right are.top_right (nth-separates 2 (frame_parts frame) all) in
    let left_intersection = set-part frame.left_intersection j.left_intersection are.left_intersection (nth-separates 12 (frame_parts frame) all) in
    let intersection = set-part frame.intersection j.intersection are.intersection (nth-separates 10 (frame_parts frame) all) in
    let right_intersection = set-part frame.right_intersection j.right_intersection are.right_intersection (nth-separates 14 (frame_parts frame) all) in
    let bottom_left = set-part frame.bottom_left j.bottom_left are.bottom_left (nth-separates 5 (frame_parts frame) all) in
    let bottom_intersection = set-part frame.bottom_intersection j.bottom_intersection are.bottom_intersection (nth-separates 7 (frame_parts frame) all) in
    let bottom_right = set-part frame.bottom_right j.bottom_right are.bottom_right (nth-separates 6 (frame_parts frame) all) in
    rw (horizontal, vertical, top_left, top_intersection, top_right, left_intersection, intersection, right_intersection, bottom_left, bottom_intersection, bottom_right) refl

-- those that a frame has, if it has all of them
pub junctions-of : (found : Option Junctions) (frame : Borders ℕ) → MatchOption found ((junctions : Junctions) → AreOfFrame frame junctions → ⊥) (AreOfFrame frame) →
    list_all part_separates (frame_parts frame) ≡ true → list_all is_separator (fitting_characters found) ≡ true
junctions-of None frame are all = refl
junctions-of (Some junctions) frame are all = separating frame junctions are all
