use Rattle.std.proofs.Common.{◌≡◌, ◌∙◌, List, ℕ, Some, ap, inl, length, map, sym}
use Rattle.std.specs.Borrow.{Bor}
use Rattle.std.proofs.lemmas.List.{length-map}
use Rattle.csv.specs.Records.{fields_of}
use Rattle.papergrid_csv.specs.Rows.{first_length, row_texts, held_texts}
use Rattle.papergrid_csv.proofs.ReadLemmas.{counted-rows, shown-end, shown-more, shown-ragged, shown-unread}
use Rattle.papergrid_csv.proofs.reading.show_each.Goals as goal

pub loop-preserved : goal.loop-preserved
loop-preserved c =
    let (trim, ready, config, y, source, first) = c.loop.invariant in
    let read = rw c.in-Ok-true.field-0-test at (c.in-Ok-true.ensures.reads trim ready) in
    let more = shown-more (λ (s : Bor (List ℕ)). Some s.now) c.args.reading c.args.input.now c.requires.closed (held_texts c.loop.shown) c.loop.reader c.read_record.new.self y config source first
    (fields_of c.read_record.new.row) (held_texts c.show_record.new.shown) c.is_ragged.result read (c.in-Ok-true.ensures.text trim)
    (c.is_ragged.ensures ∙ counted-rows c.args.reading.strict (fields_of c.read_record.new.row) _ _ c.deref.ensures.value) c.if-is_ragged.false c.in_ok-show_record-in-Ok-true.ensures in
    (read.3 ∙ trim, inl (c.in-Ok-true.ensures.ready trim), read.2 ∙ config, more.0, more.1, more.2)

pub returns-then-is_ragged-clause-unread : goal.returns-then-is_ragged-clause-unread
returns-then-is_ragged-clause-unread c =
    let (trim, ready, config, y, source, first) = c.loop.invariant in
    let read = rw c.in-Ok-true.field-0-test at (c.in-Ok-true.ensures.reads trim ready) in
    let counted : c.len.result ≡ length (held_texts c.loop.shown) = c.len.ensures ∙ c.loop.shown.ok.0 ∙ sym (length-map c.loop.shown.items row_texts) in
    shown-ragged (λ (s : Bor (List ℕ)). Some s.now) c.args.reading c.args.input.now c.requires.closed (held_texts c.loop.shown) c.loop.reader c.read_record.new.self y config source first
    (fields_of c.read_record.new.row) c.is_ragged.result c.len.result c.len-then-is_ragged.result c.first_length.result read (c.in-Ok-true.ensures.text trim)
    (c.is_ragged.ensures ∙ counted-rows c.args.reading.strict (fields_of c.read_record.new.row) _ _ c.deref.ensures.value) c.if-is_ragged.true counted c.len-then-is_ragged.ensures
    (c.first_length.ensures ∙ ap (λ rows. first_length (map row_texts rows)) c.deref-then-is_ragged.ensures.value)

pub returns-in-Err-clause-unread : goal.returns-in-Err-clause-unread
returns-in-Err-clause-unread c =
    let (trim, ready, config, y, source, first) = c.loop.invariant in
    let counted : c.len-in-Err.result ≡ length (held_texts c.loop.shown) = c.len-in-Err.ensures ∙ c.loop.shown.ok.0 ∙ sym (length-map c.loop.shown.items row_texts) in
    rw (c.unread.ensures, counted)
    (shown-unread (λ (s : Bor (List ℕ)). Some s.now) c.args.reading c.args.input.now c.requires.closed (held_texts c.loop.shown) c.loop.reader c.read_record.new.self y config source first _
    (c.in-Err.ensures.why trim ready))

pub returns-in-Ok-false-clause-shown : goal.returns-in-Ok-false-clause-shown
returns-in-Ok-false-clause-shown c =
    let (trim, ready, config, y, source, first) = c.loop.invariant in
    let read = rw c.in-Ok-false.field-0-test at (c.in-Ok-false.ensures.reads trim ready) in
    shown-end (λ (s : Bor (List ℕ)). Some s.now) c.args.reading c.args.input.now c.requires.closed (held_texts c.loop.shown) c.loop.reader c.read_record.new.self y config source first
    (fields_of c.read_record.new.row) read
