use Rattle.std.proofs.Common.{◌∙◌, [], ap, inr, map, refl, sym}
use Rattle.std.proofs.lemmas.List.Elements.{All-nil}
use Rattle.csv.specs.Reading.{Reached, strip_bom}
use Rattle.csv.specs.Records.{AllText}
use Rattle.csv.specs.declared.parser.Config.{Config}
use Rattle.papergrid_csv.specs.Rows.{row_texts}
use Rattle.papergrid_csv.proofs.ReadLemmas.{config-known}
use Rattle.papergrid_csv.proofs.reading.show_all.Goals as goal

pub show_each-requires-clause-read : goal.show_each-requires-clause-read
unfolding Reached
show_each-requires-clause-read c =
    let fr = c.from_reader-reader.ensures in
    let quoted = c.quoting.ensures in
    let delimited = c.delimiter.ensures in
    let flexible = c.flexible.ensures in
    let headless = c.has_headers.ensures in (
      rw (quoted, delimited, flexible, headless) at fr.trim ∙ c.new.ensures.trim,
      inr (inr (rw (quoted, delimited, flexible, headless) at fr.has_headers, fr.headers)),
      rw (quoted, delimited, flexible, headless) at fr.config
          ∙ ap (λ (config : Config). record config { delimiter = c.delimiter_of.result; quoting = c.has_quotes.result }) c.new.ensures.config
          ∙ config-known c.args.reading.format c.delimiter_of.result c.has_quotes.result c.delimiter_of.ensures c.has_quotes.ensures,
      strip_bom c.args.input.now,
      fr.source,
      record {
        records = [];
        read = (sym fr.state, refl);
        may = record { texts = All-nil AllText; long = λ _. tt };
        are = ap (map row_texts) c.requires.none;
      },
    )
