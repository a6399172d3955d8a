use Rattle.std.proofs.Common.{◌∙◌, ap, sym, subst, ℕ, ◌+◌, List, ◌++◌, ◌∷◌, [], None, Some}
use Rattle.papergrid_values.specs.Positions.{position_of}
use Rattle.papergrid_values.specs.declared.border.Border.{Border}
use Rattle.papergrid_config.specs.declared.setting.Setting.{Setting}
use Rattle.papergrid_config.specs.declared.setting.Setting.TheVariants.{SetBorder}
use Rattle.papergrid_draw.specs.ForProofs.Crossings.{AreFittedBefore}
use Rattle.papergrid_draw.proofs.CornerLemmas.{same_border}
use Rattle.papergrid_draw.proofs.CrossingLemmas.{fitted-pass, fitted-push}
use Rattle.papergrid_draw.proofs.crossings.Line.fit_crossing.Goals as goal

pub returns-in_default : goal.returns-in_default
returns-in_default c =
    let line = c.args.self.now in
    fitted-pass line.config.now line.shape c.args.junctions.now line.row c.args.column c.args.settings.now.items c.requires.fitted c.in_default.ensures

pub returns : goal.returns
returns c =
    let line = c.args.self.now in
    let character = c.in-Some.character in
    let before = c.args.settings.now.items in
    let set : Border ℕ → List Setting = λ border.
    before ++ SetBorder (position_of (line.row, c.args.column)) (record border { left_top_corner = Some character }) ∷ [] in
    let fitted = fitted-push line.config.now line.shape c.args.junctions.now line.row c.args.column character before
    c.requires.line.within c.requires.inside c.requires.room.0 c.requires.room.1 c.requires.fitted c.in-Some.ensures in
    subst (AreFittedBefore line.config.now line.shape c.args.junctions.now line.row (c.args.column + 1))
    (sym (c.in_ok-push.ensures.items ∙ ap set (same_border None c.empty.result c.empty.ensures))) fitted
