use Rattle.papergrid_csv.proofs.SpellingLemmas.{kept-same, same-spelled, spelled-csv, spelled-tsv}
use Rattle.papergrid_csv.proofs.spelling.spell.Goals as goal

pub returns-then-not-may_escape : goal.returns-then-not-may_escape
returns-then-not-may_escape c =
    kept-same c.try_alloc_str.result _ _ c.try_alloc_str.ensures
    (same-spelled c.args.reading c.args.field.now (c.is_kept.ensures c.if-is_kept.true) (c.may_escape.ensures c.if-not-may_escape.true))

pub returns-in-Csv : goal.returns-in-Csv
returns-in-Csv c = kept-same c.spell_characters.result _ _ c.spell_characters.ensures (spelled-csv c.args.reading c.in-Csv.field-0 c.args.field.now c.in-Csv.is)

pub returns-in-Tsv : goal.returns-in-Tsv
returns-in-Tsv c = kept-same c.spell_meant.result _ _ c.spell_meant.ensures (spelled-tsv c.args.reading c.args.field.now c.in-Tsv.is)
