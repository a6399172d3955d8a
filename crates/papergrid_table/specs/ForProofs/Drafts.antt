-- What drafts tell, and how steps end.
use Rattle.std.specs.Prelude.{◌≡◌, ℕ, Bool, true, false, Option, Result, Ok, Err, is_some, map, option_map, string_bytes, unwrap_or, ⊤}
use Rattle.papergrid_values.specs.declared.sides.Sides.{Sides}
use Rattle.papergrid_script.specs.Settings.{spaced_sides}
use Rattle.papergrid_draw.specs.declared.error.DrawError.{DrawError}
use Rattle.papergrid_draw.specs.declared.error.DrawError.TheVariants as draw_errors
use Rattle.papergrid_script.specs.declared.reading.RunFault.{RunFault}
use Rattle.papergrid_script.specs.declared.reading.RunFault.TheVariants as run_faults
use Rattle.papergrid_table.specs.declared.document.DocumentEnd.{DocumentEnd}
use Rattle.papergrid_table.specs.declared.document.DocumentEnd.TheVariants as documents
use Rattle.papergrid_script.specs.declared.program.arguments.Unexpected.{Unexpected}
use Rattle.papergrid_csv.specs.Styles.{fitting_frame, style_frame, style_head, style_padding}
use Rattle.papergrid_csv.specs.declared.request.Request.{Request}
use Rattle.papergrid_csv.specs.declared.style.Style.{Style}
use Rattle.papergrid_table.specs.Arguments.{AreFitting, IsMisuseOf, WordsSaid, GivenOptions, column_told}
use Rattle.papergrid_table.specs.Values.{left_and_right}
use Rattle.papergrid_table.specs.declared.arguments.Draft.{Draft}
use Rattle.papergrid_table.specs.declared.arguments.Misuse.{Misuse}
use Rattle.papergrid_table.specs.declared.arguments.Misuse.TheVariants as misuses
use Rattle.papergrid_table.specs.declared.chosen.Chosen.{Chosen}

-- what options told that are chosen so
abbrev pub told_of : Chosen → GivenOptions
told_of chosen = record {
  kind = chosen.kind;
  delimiter = chosen.delimiter;
  style = chosen.style;
  has_head = chosen.wanted.request.has_head;
  alignment = chosen.wanted.request.alignment;
  columns = map column_told chosen.wanted.request.columns.items;
  vertical = chosen.wanted.request.vertical;
  pad = chosen.pad;
  spans = chosen.wanted.request.spans.items;
  hides = chosen.wanted.request.hides;
  max_width = chosen.wanted.request.max_width;
  width = chosen.wanted.width;
  cut = chosen.wanted.request.cut;
  tab = chosen.wanted.request.reading.tab;
  one_line = chosen.wanted.request.reading.one_line;
  raw = chosen.wanted.request.reading.raw;
  strict = chosen.wanted.request.reading.strict;
  fits = chosen.fits;
  sizing = chosen.wanted.request.sizing;
  witness = chosen.wanted.witness;
  check = option_map string_bytes chosen.wanted.check;
  explains_json = chosen.wanted.explains_json;
  is_of_fields = is_some chosen.of_fields;
}

-- what the words of a draft say
abbrev pub said_of : Draft → WordsSaid
said_of draft = record {
  takes_options = draft.takes_options;
  asked = draft.asked;
  waits = option_map (λ w. w.valued) draft.waits;
  told = told_of draft.chosen;
}

-- ---- how a step ends

-- with what is told, seen so, or with the misuse that is told
abbrev pub IsAnswer : {S A : Type 0} → (A → S) → Result S (Option Unexpected) → Result A Misuse → Type 0
IsAnswer seen told (Ok answer) = told ≡ Ok (seen answer)
IsAnswer seen told (Err misuse) = IsMisuseOf told misuse

-- something is said of it, if there was memory for that
abbrev pub IsSaid : Misuse → Type 0
IsSaid (misuses.Unexpected word) = ⊥
IsSaid misuse = ⊤

-- with something said, just where it is refused
abbrev pub IsJudged : {A : Type 0} → Bool → (A → Type 0) → Result A Misuse → Type 0
IsJudged refused P (Ok answer) = (refused ≡ false) × P answer
IsJudged refused P (Err misuses.Memory) = ⊤
IsJudged refused P (Err (misuses.Said text)) = refused ≡ true
IsJudged refused P (Err (misuses.Unexpected word)) = ⊥

-- a request with the lines of a style, and the rest as it was
pub record IsDrawnIn (style : Style) (pad : Option (Sides ℕ)) (fits : Bool) (old new : Request) : Type 0 where
  pub junctions : AreFitting fits (fitting_frame style) new.junctions
  pub rest : new ≡ record old {
    frame = style_frame style;
    head = style_head style old.has_head;
    padding = spaced_sides (unwrap_or pad (left_and_right (style_padding style)));
    junctions = new.junctions;
  }

-- how a run ends whose table was drawn so
abbrev pub document_end : Result ⊤ DrawError → Result DocumentEnd RunFault
document_end (Ok drawn) = Ok documents.Drawn
document_end (Err (draw_errors.Memory e)) = Err run_faults.Memory
document_end (Err draw_errors.Write) = Err run_faults.Write
document_end (Err e) = Ok (documents.Refused e)

-- a fault of a reader that failed, or of memory where it did not
abbrev pub IsReadOrMemory : Bool → RunFault → Type 0
IsReadOrMemory failed run_faults.Read = failed ≡ true
IsReadOrMemory failed run_faults.Memory = failed ≡ false
IsReadOrMemory failed run_faults.Write = ⊥
