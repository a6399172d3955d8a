use Rattle.std.proofs.Common.{◌≡◌, ◌∙◌, ap, sym, ℕ, Some}
use Rattle.std.specs.Prelude.{is_some}
use Rattle.std.proofs.lemmas.Bool.{false≢true}
use Rattle.papergrid_values.specs.Positions.{position_of}
use Rattle.papergrid_draw.specs.Characters.{crossing_character}
use Rattle.papergrid_draw.proofs.SegmentLemmas.{character_shown}
use Rattle.papergrid_draw.specs.Crossings.{bare_drawing}
use Rattle.papergrid_draw.proofs.CrossingLemmas.{joined}
use Rattle.papergrid_draw.proofs.crossings.Line.wanted.Goals as goal

pub returns-in_err-joining : goal.returns-in_err-joining
returns-in_err-joining c =
    let line = c.args.self.now in
    rw c.from_residual.ensures (λ seen.
    absurd (false≢true (ap is_some c.in_err-joining.ensures
    ∙ joined c.args.junctions.now (bare_drawing line.config.now line.shape) line.row c.args.column seen)))

pub returns-then-joining-character : goal.returns-then-joining-character
returns-then-joining-character c = λ seen.
    let config = c.args.self.now.config.now in
    let shape = c.args.self.now.shape in
    let character : c.unwrap_or-character.result ≡ crossing_character config shape (position_of (c.args.self.now.row, c.args.column))
    = character_shown _ _ _ c.unwrap_or-character.ensures c.get_intersection-found.ensures c.get_borders_missing.ensures in
    sym c.joining.ensures ∙ c.in_ok-joining.was ∙ ap (λ (n : ℕ). Some n) (c.if-joining-character.true ∙ character)

pub returns-else-joining-character : goal.returns-else-joining-character
returns-else-joining-character c =
    let config = c.args.self.now.config.now in
    let shape = c.args.self.now.shape in
    let character : c.unwrap_or-character.result ≡ crossing_character config shape (position_of (c.args.self.now.row, c.args.column))
    = character_shown _ _ _ c.unwrap_or-character.ensures c.get_intersection-found.ensures c.get_borders_missing.ensures in
    record {
      seen = record {
        has_rows = c.requires.line.has_rows;
        has_columns = c.requires.line.has_columns;
        row = c.requires.line.within;
        col = c.requires.inside;
        horizontal = c.requires.horizontal;
        vertical = sym c.has_vertical.ensures.test ∙ c.if-not-has_vertical.false;
        free = sym c.is_crossing_under.ensures ∙ c.if-is_crossing_under.false;
      };
      joins = sym c.joining.ensures ∙ c.in_ok-joining.was;
      other = λ same. c.if-joining-character.false (sym same ∙ sym character);
    }
