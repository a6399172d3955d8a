use Rattle.std.proofs.Common.{◌≡◌, ◌∙◌, ap, subst, sym}
use Rattle.std.specs.Prelude.{IfSome}
use Rattle.papergrid_values.specs.declared.position.Position.{Position}
use Rattle.papergrid_maps.specs.StoredMap.{stored_value}
use Rattle.papergrid_draw.specs.Contents as contents
use Rattle.papergrid_draw.specs.Contents.{look_of}
use Rattle.papergrid_draw.specs.ForProofs.Blanks.{IsBetweenBlanks}
use Rattle.papergrid_draw.specs.ForProofs.Looks.{IsAlignmentOfAll, look_seen}
use Rattle.papergrid_draw.specs.declared.look.Look.{Look}
use Rattle.papergrid_draw.proofs.LookLemmas.{aligned_blanks, common_look}
use Rattle.papergrid_draw.proofs.look.Looks.new.Goals as goal

pub returns-then-has_own_look : goal.returns-then-has_own_look
returns-then-has_own_look c = record {
  alike = λ look none p. cc;
  blanks = λ blanks none p. cc;
  horizontal = λ horizontal none p. cc;
}

pub returns : goal.returns
returns c =
    let config = c.args.config.now in
    let common = c.has_own_look.ensures.0 c.if-has_own_look.false in
    let seen : (p : Position) → record (look_seen c.of-look.result) { horizontal = stored_value config.alignment_horizontal p } ≡ look_of config p =
    λ p. ap (λ (l : contents.Look). record l { horizontal = stored_value config.alignment_horizontal p }) c.of-look.ensures ∙ common_look config common _ p in
    record {
      alike = λ look same p.
          let e : c.of-look.result ≡ look = cc in
          ap (λ (l : Look). record (look_seen l) { horizontal = stored_value config.alignment_horizontal p }) (sym e) ∙ seen p;
      blanks = λ blanks same p.
          subst (λ look. IsBetweenBlanks look blanks) (seen p)
          (aligned_blanks (look_seen c.of-look.result) blanks (stored_value config.alignment_horizontal p)
          (subst (λ found. IfSome found (IsBetweenBlanks (look_seen c.of-look.result))) same c.of.ensures));
      horizontal = λ horizontal same.
          subst (λ found. IfSome found (IsAlignmentOfAll config)) same c.common_alignment.ensures;
    }
