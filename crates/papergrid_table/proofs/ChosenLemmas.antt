-- What options choose: crossings of a style, and refusals, of which something is said.
use Rattle.std.proofs.Common.{◌≡◌, ℕ, Bool, true, false, ◌||◌, ap, refl}
use Rattle.std.specs.Prelude.{Option, Result, Err, is_some, unwrap_or}
use Rattle.std.specs.Result.{result_map_both}
use Rattle.papergrid_script.specs.declared.program.arguments.Unexpected.{Unexpected}
use Rattle.papergrid_table.specs.Arguments.{IsMisuseOf}
use Rattle.papergrid_table.specs.ForProofs.Drafts.{IsJudged, IsSaid}
use Rattle.papergrid_table.specs.declared.arguments.Misuse.{Misuse}
use Rattle.papergrid_table.specs.declared.arguments.Misuse.TheVariants as misuses
use Rattle.papergrid_values.specs.declared.borders.Borders.{Borders}
use Rattle.papergrid_draw.specs.Crossings.{AreOfFrame}
use Rattle.papergrid_draw.specs.declared.crossings.Junctions.{Junctions}
use Rattle.papergrid_csv.specs.Styles.{fitting_frame, style_frame}
use Rattle.papergrid_csv.specs.declared.style.Style.{Style}
use Rattle.papergrid_csv.specs.declared.style.Style.TheVariants.{Ascii, Blank, Dots, Extended, Markdown, Modern, Plain, Psql, Rounded, Rst, Sharp}

-- something is said of what is refused
pub judged-said : {A : Type 0} (P : A → Type 0) (refused : Bool) (misuse : Misuse) → IsSaid misuse → refused ≡ true → IsJudged refused P (Err misuse)
judged-said P refused misuses.Memory said is = tt
judged-said P refused (misuses.Said text) said is = is
judged-said P refused (misuses.Unexpected word) said is = absurd said

-- what is refused before a step stays so after it
pub refused-before : {S T : Type 0} (step : S → T) (told : Result S (Option Unexpected)) (misuse : Misuse) → IsMisuseOf told misuse → IsMisuseOf (result_map_both step (λ e. e) told) misuse
refused-before step told misuses.Memory is = tt
refused-before step told (misuses.Said text) is = ap (result_map_both step (λ e. e)) is
refused-before step told (misuses.Unexpected word) is = ap (result_map_both step (λ e. e)) is

-- the characters of a frame that has all of them
abbrev of_frame : Borders ℕ → Junctions
of_frame frame = record {
  horizontal = unwrap_or frame.horizontal 0;
  vertical = unwrap_or frame.vertical 0;
  top_left = unwrap_or frame.top_left 0;
  top_intersection = unwrap_or frame.top_intersection 0;
  top_right = unwrap_or frame.top_right 0;
  left_intersection = unwrap_or frame.left_intersection 0;
  intersection = unwrap_or frame.intersection 0;
  right_intersection = unwrap_or frame.right_intersection 0;
  bottom_left = unwrap_or frame.bottom_left 0;
  bottom_intersection = unwrap_or frame.bottom_intersection 0;
  bottom_right = unwrap_or frame.bottom_right 0;
}

pub lacks_crossing : (style : Style) → ((junctions : Junctions) → AreOfFrame (fitting_frame style) junctions → ⊥) → is_some (fitting_frame style).intersection ≡ false
unfolding fitting_frame style_frame
lacks_crossing Rounded none = absurd (none (of_frame (fitting_frame Rounded)) search)
lacks_crossing Ascii none = absurd (none (of_frame (fitting_frame Ascii)) search)
lacks_crossing Modern none = absurd (none (of_frame (fitting_frame Modern)) search)
lacks_crossing Sharp none = absurd (none (of_frame (fitting_frame Sharp)) search)
lacks_crossing Extended none = absurd (none (of_frame (fitting_frame Extended)) search)
lacks_crossing Dots none = absurd (none (of_frame (fitting_frame Dots)) search)
lacks_crossing Psql none = refl
lacks_crossing Markdown none = refl
lacks_crossing Rst none = refl
lacks_crossing Blank none = refl
lacks_crossing Plain none = refl

-- refused for none of three reasons
pub for_none : (a b c : Bool) → a || b ≡ false → c ≡ false → a || (b || c) ≡ false
for_none false false c both last = last
for_none false true c both last = absurd (cc)
for_none true b c both last = absurd (cc)
