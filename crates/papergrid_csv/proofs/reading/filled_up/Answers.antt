use Rattle.std.proofs.Common.{◌∙◌, ◌≡◌, ◌+◌, ◌-◌, ◌<◌, ◌≤◌, ◌++◌, ℕ, [], ap, append-nil, arith, length, map, replicate, sym}
use Rattle.std.proofs.lemmas.List.{length-map, map-append}
use Rattle.papergrid_csv.specs.Rows.{row_texts}
use Rattle.papergrid_csv.proofs.ReadLemmas.{filled-more}
use Rattle.papergrid_csv.proofs.reading.filled_up.Goals as goal

pub loop-init : goal.loop-init
loop-init c =
    let from = c.len-counter.ensures in
    let none : c.len-counter.result - length c.args.row.items ≡ 0 = omega arith in
    (sym (ap (λ n. row_texts c.args.row ++ replicate n []) none ∙ append-nil (row_texts c.args.row)), λ _. omega arith)

pub loop-preserved : goal.loop-preserved
loop-preserved c =
    let from = c.len-counter.ensures in
    let start = c.loop.auto.counter in (
      filled-more (row_texts c.args.row) (row_texts c.loop.filled) (row_texts c.push.new.self) (c.loop.counter - length c.args.row.items) (c.loop.counter + 1 - length c.args.row.items)
          c.loop.invariant.0 (ap (map (λ text. text.now)) c.in_ok-push.ensures.items ∙ map-append (λ text. text.now) c.loop.filled.items _) (omega arith),
      λ short. omega arith,
    )

-- the counter ends where the row is full
at_end : (counter start columns : ℕ) → (columns < start → counter ≡ start) → (start ≤ columns → counter ≤ columns) → columns ≤ counter → counter - start ≡ columns - start
at_end counter start columns short long past = grind arith

pub returns : goal.returns
returns c =
    let from : c.len-counter.result ≡ length c.args.row.items = omega arith in
    let long = length-map c.args.row.items (λ text. text.now) in
    let same : c.loop.counter - length c.args.row.items ≡ c.args.columns - length (row_texts c.args.row) =
    rw long (at_end c.loop.counter (length c.args.row.items) c.args.columns c.loop.invariant.1 (rw from at c.loop.auto.counter-end) c.loop-test.false) in
    c.loop.invariant.0 ∙ ap (λ n. row_texts c.args.row ++ replicate n []) same
