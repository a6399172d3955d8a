use Rattle.std.proofs.Common.{◌≤◌, ◌++◌, ◌∙◌, ap, refl, string_bytes, sym}
use Rattle.std.proofs.lemmas.Option.{slice_get_read}
use Rattle.std.proofs.lemmas.Result.{on_ok_weaker}
use Rattle.papergrid_draw.specs.Bytes.{piece_bytes}
use Rattle.papergrid_draw.specs.Characters.{vertical}
use Rattle.papergrid_draw.specs.ForProofs.Pages.{drawing_of}
use Rattle.papergrid_draw.proofs.LineLemmas.{frame-line, vertical-none, vertical-some}
use Rattle.papergrid_draw.proofs.page.Frame.push_line_before.Goals as goal

pub returns-in-Some : goal.returns-in-Some
returns-in-Some c =
    let position = c.args.position in
    on_ok_weaker c.push_character.result (λ added texts same.
    let lookup = rw c.deref.ensures.value at c.in-Some.ensures.lookup in
    let kept = slice_get_read c.args.self.now.characters.items _ position.col c.in-Some.common.now refl lookup.3.0 lookup.1 in
    added
    ∙ ap (λ text. string_bytes c.args.line.now ++ text) (sym (c.args.self.now.read.characters_are texts position.row position.col c.args.k c.in-Some.common.now kept)))
    c.push_character.ensures

pub returns-then-not-index : goal.returns-then-not-index
returns-then-not-index c = λ texts same.
    let within : c.args.position.col ≤ c.args.self.now.shape.1 = c.requires in
    let none = frame-line c.args.self.now texts c.args.position.col c.index.result.now within c.index.ensures ∙ c.if-not-index.true in
    vertical-none (drawing_of c.args.self.now.table.now texts) c.args.position.row c.args.position.col c.args.k (string_bytes c.args.line.now) none

pub returns : goal.returns
returns c =
    let position = c.args.position in
    on_ok_weaker c.push_vertical.result (λ added texts same.
    let within : position.col ≤ c.args.self.now.shape.1 = c.requires in
    let some = frame-line c.args.self.now texts position.col c.index.result.now within c.index.ensures ∙ c.if-not-index.false in
    added
    ∙ (λ i. string_bytes c.args.line.now ++ piece_bytes (vertical (c.args.self.now.read.config_is i) (c.args.self.now.read.shape_is i) position (same i) c.args.k))
    ∙ (λ i. string_bytes c.args.line.now ++ vertical-some (drawing_of c.args.self.now.table.now texts) position.row position.col c.args.k some i))
    c.push_vertical.ensures
