use Rattle.std.proofs.Common.{refl}
use lib.Utf8.{encode}
use Rattle.std.specs.Fmt.{digits}
use Rattle.std.specs.Str.{chars, is_utf8}
use Rattle.unicode_width.specs.Width.{str_width, step, past_emoji}
use Rattle.papergrid_script.specs.Texts.{unescaped}
use Rattle.papergrid_text.specs.Text.{character_of}
use Rattle.papergrid_script.specs.Grammar.{number_said, position_said, position_and_count, entity_said, sides_of, padding_of, number_and_character, keyword_setting, keyword_says, text_says, line_says}
use Rattle.papergrid_script.specs.ForProofs.Read.{script_lines}
use Rattle.papergrid_script.specs.ForProofs.Read.{table_of}
use Rattle.papergrid_script.proofs.Estimated.{estimate_by}
use Rattle.papergrid_script.proofs.ListedLemmas.{worked}
use Rattle.papergrid_script.proofs.worked.worked_rows.Goals as goal

pub returns : goal.returns
unfolding table_of script_lines line_says text_says keyword_says keyword_setting number_and_character character_of padding_of sides_of entity_said position_and_count position_said number_said unescaped chars is_utf8 encode estimate_by str_width step past_emoji digits
returns c = record {
  first_run = worked _ _ _ _ refl refl;
  short_row = worked _ _ _ _ refl refl;
  out_before_too_large = worked _ _ _ _ refl refl;
  row_override_over_column = worked _ _ _ _ refl refl;
  greatest_size = worked _ _ _ _ refl refl;
  greatest_size_and_one = worked _ _ _ _ refl refl;
  greatest_size_and_borders = worked _ _ _ _ refl refl;
  out_of_table = worked _ _ _ _ refl refl;
  nested_column_spans = worked _ _ _ _ refl refl;
  equal_ranges = worked _ _ _ _ refl refl;
  out_of_table_by_rows = worked _ _ _ _ refl refl;
  no_columns = worked _ _ _ _ refl refl;
  empty_input = worked _ _ _ _ refl refl;
  borders_alone = worked _ _ _ _ refl refl;
  one_line = worked _ _ _ _ refl refl;
  no_line = worked _ _ _ _ refl refl;
  all_lines = worked _ _ _ _ refl refl;
  cell_before_row = worked _ _ _ _ refl refl;
  bad_escape = worked _ _ _ _ refl refl;
  least_nested_column_spans = worked _ _ _ _ refl refl;
  least_crossing_column_spans = worked _ _ _ _ refl refl;
}
