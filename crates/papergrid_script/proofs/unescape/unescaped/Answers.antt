use Rattle.std.proofs.Common.{◌≡◌, ◌<◌, ◌+◌, ℕ, List, length, take, drop, Option, IfOk, option_map, sym, subst, arith}
use Rattle.papergrid_text.proofs.Places.{is_there}
use Rattle.papergrid_script.specs.Texts.{backslash}
use Rattle.papergrid_script.specs.ForProofs.Escapes.{IsFirstEscape}
use Rattle.papergrid_script.proofs.EscapeLemmas.{IsCut, is_backslash, cut_open, unescaped-whole}
use Rattle.papergrid_script.proofs.unescape.unescaped.Goals as goal

pub returns-then-spelled-escape : goal.returns-then-spelled-escape
returns-then-spelled-escape c = grind (arith, unescaped-whole)

pub split_around-requires-clause-ascii : goal.split_around-requires-clause-ascii
split_around-requires-clause-ascii c =
    let first = c.requires in
    let within = c.if-spelled-escape.false in
    let at = (is_there c.args.spelled.now backslash c.args.escape (omega arith) (omega arith)).1 in
    omega arith

cut_there : (spelled plain after : List ℕ) (at : ℕ) → IsFirstEscape spelled at → at < length spelled → plain ≡ take at spelled → after ≡ drop (at + 1) spelled → IsCut spelled plain after
cut_there spelled plain after at first within before behind = grind (arith, is_backslash)

pub returns : goal.returns
returns c =
    subst (λ (meant : Option (List ℕ)). IfOk c.with_escapes.result (λ found. option_map (λ text. text.now) found ≡ meant))
    (sym (cut_open _ _ _ (cut_there c.args.spelled.now _ _ c.args.escape c.requires c.if-spelled-escape.false c.split_around.ensures.before c.split_around.ensures.after)))
    c.with_escapes.ensures
