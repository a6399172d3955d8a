use Rattle.std.proofs.Common.{◌≡◌, ◌∙◌, ap, false, map, refl, subst}
use Rattle.papergrid_csv.specs.declared.reading.Format.{Format}
use Rattle.papergrid_csv.specs.declared.request.Request.{Request}
use Rattle.papergrid_table.specs.Arguments.{IsWanted, column_told, is_beside_width, is_of_another, is_refused, lacks_crossings}
use Rattle.papergrid_table.specs.ForProofs.Drafts.{told_of}
use Rattle.papergrid_table.specs.declared.arguments.Wanted.{Wanted}
use Rattle.papergrid_table.proofs.ChosenLemmas.{for_none}
use Rattle.papergrid_table.proofs.chosen.Chosen.wanted.Goals as goal

pub returns-clause-told : goal.returns-clause-told
returns-clause-told c =
    let told = told_of c.args.self in
    let input = c.unwrap_or-kind.result in
    let drawn = c.in_ok-draw_in_style.ensures.drawn in
    let rest = drawn.1.rest in
    let refused : is_refused input told ≡ false = for_none (is_of_another input told) (is_beside_width told) (lacks_crossings told) c.in_ok-judge.ensures.0 drawn.0 in
    let by_kind : (format : Format) → c.format_of-wanted.result ≡ format → c.draw_in_style.new.request.reading ≡ record c.args.self.wanted.request.reading { format = format } =
    λ format is. ap (λ (r : Request). r.reading) rest ∙ ap (λ (f : Format). record c.args.self.wanted.request.reading { format = f }) is in
    let wanted : Wanted = record {
      kind = input;
      request = c.draw_in_style.new.request;
      width = c.args.self.wanted.width;
      witness = c.args.self.wanted.witness;
      check = c.args.self.wanted.check;
      explains_json = c.args.self.wanted.explains_json;
    } in
    let is : IsWanted input told wanted = record {
      kind = refl;
      reading = by_kind _ c.format_of-wanted.ensures;
      frame = ap (λ (r : Request). r.frame) rest;
      head = ap (λ (r : Request). r.head) rest;
      has_head = ap (λ (r : Request). r.has_head) rest;
      padding = ap (λ (r : Request). r.padding) rest;
      alignment = ap (λ (r : Request). r.alignment) rest;
      vertical = ap (λ (r : Request). r.vertical) rest;
      columns = ap (λ (r : Request). map column_told r.columns.items) rest;
      spans = ap (λ (r : Request). r.spans.items) rest;
      hides = ap (λ (r : Request). r.hides) rest;
      junctions = drawn.1.junctions;
      cut = ap (λ (r : Request). r.cut) rest;
      max_width = ap (λ (r : Request). r.max_width) rest;
      sizing = ap (λ (r : Request). r.sizing) rest;
      width = refl;
      witness = refl;
      check = refl;
      explains_json = refl;
    } in
    subst (λ kind. (is_refused kind told ≡ false) × IsWanted kind told wanted) c.unwrap_or-kind.ensures (refused, is)
