-- What the words after the program's name ask for: options in any order, and one other word at most.
use Rattle.std.specs.Prelude.{◌&&◌, Bool, true, false, if◌then◌else◌, List, Option, Some, None, Result, Ok, bytes_eq, codes, is_some, string_bytes, unwrap_or, String}
use Rattle.std.specs.Global.{Global}
use Rattle.std.specs.Result.{result_map_both}
use Rattle.papergrid_tracks.specs.declared.sizing.Sizing.TheVariants.{ByShares, Least}
use Rattle.papergrid_script.specs.Arguments.{asked_by, said_by}
use Rattle.papergrid_script.specs.declared.program.arguments.Request.{Request}
use Rattle.papergrid_script.specs.declared.program.arguments.Request.TheVariants.{OfInput}
use Rattle.papergrid_script.specs.declared.program.arguments.Unexpected.{Unexpected}
use Rattle.papergrid_sizes.specs.declared.arguments.Wanted.{Wanted}

-- what words say: whether the next one may be an option, what one of them asked for, and what the options want
pub record Requested : Type 0 where
  pub takes_options : Bool
  pub asked : Option Request
  pub wanted : Wanted

-- no word yet
abbrev pub nothing_requested : Requested
nothing_requested = record { takes_options = true; asked = None; wanted = record { sizing = ByShares; only_totals = false } }

-- the same with one word more. After `--` no word is an option
unfoldable pub next_requested : Requested → String Global → Result Requested Unexpected
next_requested said word =
    if said.takes_options && bytes_eq (string_bytes word) (codes "--") then Ok (record said { takes_options = false })
    else if said.takes_options && bytes_eq (string_bytes word) (codes "--least") then Ok (record said { wanted = record said.wanted { sizing = Least } })
    else if said.takes_options && bytes_eq (string_bytes word) (codes "--total") then Ok (record said { wanted = record said.wanted { only_totals = true } })
    else result_map_both (λ request. record said { asked = Some request }) (λ word. word) (asked_by (is_some said.asked) word said.takes_options)

-- what all words ask for, the input where none tells a file
abbrev pub asked_by_words : List (String Global) → Result (Request × Wanted) Unexpected
asked_by_words words = result_map_both (λ said. (unwrap_or said.asked OfInput, said.wanted)) (λ word. word) (said_by next_requested (Ok nothing_requested) words)
