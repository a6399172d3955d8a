use Rattle.std.proofs.Common.{◌++◌, ◌∙◌, ap, string_bytes, sym}
use Rattle.std.specs.Prelude.{encode_utf8}
use Rattle.std.proofs.lemmas.List.{append-nil}
use Rattle.std.proofs.lemmas.Result.{on_ok_weaker}
use Rattle.papergrid_draw.specs.ForProofs.Pages.{character_bytes}
use Rattle.papergrid_draw.proofs.PenLemmas.{on_ok_added}
use Rattle.papergrid_draw.proofs.page.push_character.Goals as goal

pub returns-in-None : goal.returns-in-None
returns-in-None c =
    let line = string_bytes c.args.line.now in
    sym (append-nil line) ∙ ap (λ found. line ++ character_bytes found) (sym c.in-None.is)

pub returns-in-Some : goal.returns-in-Some
returns-in-Some c =
    let line = string_bytes c.args.line.now in
    let character = c.in-Some.character in
    on_ok_weaker c.push.result (λ added. added ∙ ap (λ text. line ++ text) (sym (append-nil (encode_utf8 character)))
    ∙ ap (λ found. line ++ character_bytes found) (sym c.in-Some.is))
    (on_ok_added c.push.result line (encode_utf8 character) (string_bytes c.push.new.self) c.push.ensures.bytes)
