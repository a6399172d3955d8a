use Rattle.std.proofs.Common.{◌≡◌, ◌∙◌, ◌++◌, ◌∷◌, [], ap, get_or, map, refl, string_bytes, sym, take}
use Rattle.std.proofs.lemmas.List.{map-append, take_all, take_more}
use Rattle.papergrid_builder.specs.ForProofs.Texts.{text_in, texts_lent}
use Rattle.papergrid_builder.proofs.cells.CellTexts.texts.Goals as goal

pub loop-start-init : goal.loop-start-init
loop-start-init c = rw c.in_ok-texts.ensures.items refl

pub loop-start-preserved : goal.loop-start-preserved
loop-start-preserved c =
    let text = string_bytes c.self.inside.text in
    let ranges = c.deref-start-items.result.now in
    let range = get_or ranges c.loop-start.start-index (0, 0) in
    let item : c.range.result.now ≡ text_in text range = c.range.ensures.value ∙ ap (λ bytes. text_in bytes range) c.deref.ensures in
    ap texts_lent c.in_ok-push.ensures.items ∙ map-append (λ text. text.now) c.loop-start.texts.items (c.range.result ∷ [])
    ∙ (λ i. c.loop-start.invariant i ++ item i ∷ [])
    ∙ sym (map-append (text_in text) (take c.loop-start.start-index ranges) (range ∷ []))
    ∙ ap (map (text_in text)) (sym (take_more ranges c.loop-start.start-index (0, 0) c.loop-start-test.true))

pub returns : goal.returns
returns c =
    let text = string_bytes c.self.inside.text in
    let ranges = c.deref-start-items.result.now in
    c.loop-start.invariant ∙ ap (map (text_in text)) (take_all c.loop-start.start-index ranges c.loop-start-test.false ∙ c.deref-start-items.ensures.value) ∙ c.self.view_is
