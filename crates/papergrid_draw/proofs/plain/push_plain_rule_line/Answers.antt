use Rattle.std.proofs.Common.{◌++◌, ◌∙◌, ap, string_bytes, sym}
use Rattle.std.proofs.lemmas.Option.{same_Some}
use Rattle.std.proofs.lemmas.Result.{on_ok_weaker}
use Rattle.papergrid_draw.specs.Bytes.{rule_bytes}
use Rattle.papergrid_draw.specs.Drawn.{rule_line}
use Rattle.papergrid_draw.specs.ForProofs.Pages.{drawing_of}
use Rattle.papergrid_draw.proofs.PenLemmas.{on_ok_added}
use Rattle.papergrid_draw.proofs.PlainRuleLemmas.{rule-same}
use Rattle.papergrid_draw.proofs.plain.push_plain_rule_line.Goals as goal

pub returns-in-Some-clause-bytes : goal.returns-in-Some-clause-bytes
returns-in-Some-clause-bytes c = on_ok_weaker c.push_str.result (λ added texts. added
    ∙ ap (λ text. string_bytes c.args.line.now ++ text) (c.as_str.ensures.value
    ∙ c.requires.common texts c.in-Some.rule c.args.row c.in-Some.is ((c.is_common_rule.ensures texts).0 c.if-not-is_common_rule.false)))
    (on_ok_added c.push_str.result (string_bytes c.args.line.now) c.as_str.result.now (string_bytes c.push_str.new.self) c.push_str.ensures.bytes)

pub returns-clause-common : goal.returns-clause-common
returns-clause-common c = λ texts bytes row same common.
    let d = drawing_of c.args.frame.now.table.now texts in
    ap string_bytes (sym (same_Some c.push_own_rule-2.new.line bytes same))
    ∙ c.in_ok-push_own_rule.ensures texts
    ∙ ap (λ front. front ++ rule_bytes (rule_line d c.args.row)) c.new-rule.ensures.bytes
    ∙ ap rule_bytes (rule-same d c.requires.plain c.args.row row ((c.is_common_rule.ensures texts).0 c.if-not-is_common_rule.false) common)
