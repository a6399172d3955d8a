use Rattle.std.proofs.Common.{◌≡◌, ◌∙◌, arith, inr, length, map, sym}
use Rattle.std.proofs.lemmas.List.{length-map}
use Rattle.std.proofs.lemmas.Result.{err_from_is_err_and}
use Rattle.papergrid.proofs.equal_rows.compact_table.Goals as goal

pub returns-in_err-height-clause-fault : goal.returns-in_err-height-clause-fault
returns-in_err-height-clause-fault g c =
    let fault = c.in_err-height.ensures.fault in
    let count : c.len.result ≡ length c.in_ok-held.held.rows.items = omega arith in
    let p = err_from_is_err_and c.from_residual-in_err-height.result c.from_residual-in_err-height.ensures.1 in
    rw (p.1, p.2) (inr (
      fault.0,
      record {
        config = c.in_ok-made.made;
        made = c.in_ok-made.ensures;
        cells = map (λ row. row.items) c.in_ok-held.held.rows.items;
        told = c.in_ok-held.ensures.told;
        some = λ none. fault.1 (count ∙ sym (length-map c.in_ok-held.held.rows.items (λ row. row.items)) ∙ none);
        high = fault.2;
      },
    ))

pub returns-clause-made : goal.returns-clause-made
returns-clause-made g c = record {
  made = c.in_ok-made.ensures;
  told = c.in_ok-held.ensures.told;
  has_columns = c.in_ok-held.ensures.columns;
  has_height = λ some. c.in_ok-height.ensures.height (λ none. some (omega (arith, none)));
}
