use Rattle.std.proofs.Common.{rules, ◌-◌, ◌<◌, ◌≤◌, get_or, arith}
use Rattle.std.specs.Prelude.{All}
use Rattle.std.specs.List.Sorted.{IsNonDecreasingBy}
use Rattle.std.proofs.lemmas.List.Sorted.{All-permutation, IsNonDecreasingBy-from_sort_by_key}
use Rattle.papergrid_table.specs.declared.wide.Asking.{Asking}
use Rattle.papergrid_table.proofs.wide.sort_widest_first.Goals as goal

pub returns : goal.returns
returns c =
    let items = c.sort_by_key.new.self.items in
    let sorted : IsNonDecreasingBy (λ (cell : Asking). 18446744073709551615 - cell.width) items =
    IsNonDecreasingBy-from_sort_by_key (λ cell. 18446744073709551615 - cell.width) _ c.in_ok-sort_by_key.ensures.sorted (λ a r q k. search rules) in
    let small : All (λ (cell : Asking). cell.width < 18446744073709551616) items =
    All-permutation (λ cell. cell.width < 18446744073709551616) c.args.asking.now.items items c.sort_by_key.ensures.permutation c.requires in
    record {
      same = c.sort_by_key.ensures.permutation;
      order = λ i j d lt l.
          let s : 18446744073709551615 - (get_or items i d).width ≤ 18446744073709551615 - (get_or items j d).width = sorted i j d (omega arith) l in
          let a : (get_or items i d).width < 18446744073709551616 = small i d (omega arith) in
          let b : (get_or items j d).width < 18446744073709551616 = small j d l in
          omega arith;
    }
