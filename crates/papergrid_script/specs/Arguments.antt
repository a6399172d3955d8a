-- What the words after the name of a program ask for. Only one word asks, and options stand beside it in any order.
use Rattle.std.specs.Prelude.{ℕ, ◌&&◌, ◌||◌, Bool, true, false, if◌then◌else◌, List, [], ◌∷◌, Option, Some, None, Result, Ok, Err, bytes_eq, codes, string_bytes, String}
use Rattle.std.specs.Global.{Global}
use Rattle.std.specs.Str.Parse.{starts_with_minus}
use Rattle.papergrid_script.specs.declared.program.arguments.Request.{Request}
use Rattle.papergrid_script.specs.declared.program.arguments.Request.TheVariants.{Help, OfFile, OfInput, Version}
use Rattle.papergrid_script.specs.declared.program.arguments.Unexpected.{Unexpected}
use Rattle.papergrid_script.specs.declared.program.arguments.Unexpected.TheVariants.{Another, NoOption}

-- what an option asks for that is none of a table; nothing, where there is no such option
abbrev pub program_option : List ℕ → Option Request
program_option text =
    if bytes_eq text (codes "--help") || bytes_eq text (codes "-h") then Some Help
    else if bytes_eq text (codes "--version") || bytes_eq text (codes "-V") then Some Version
    else None

-- what a word asks for by itself. After `--` no word is an option, and a file may be named like one
abbrev pub asked_alone : Bool → String Global → Option Request
asked_alone takes_options word =
    if bytes_eq (string_bytes word) (codes "-") then Some OfInput
    else if takes_options && starts_with_minus (string_bytes word) then program_option (string_bytes word)
    else Some (OfFile word)

-- the same, where a word before it asked already, or none did
abbrev pub asked_once : Bool → String Global → Option Request → Result Request Unexpected
asked_once is_asked word None = Err (NoOption word)
asked_once true word (Some request) = Err (Another word)
asked_once false word (Some request) = Ok request

-- what one word asks for, or why it is not taken
unfoldable pub asked_by : Bool → String Global → Bool → Result Request Unexpected
asked_by is_asked word takes_options = asked_once is_asked word (asked_alone takes_options word)

-- what words say, each by what those before it said; the first one that is refused refuses all
abbrev pub said_by : {S W E : Type 0} → (S → W → Result S E) → Result S E → List W → Result S E
said_by next said [] = said
said_by next (Ok said) (word ∷ words) = said_by next (next said word) words
said_by next (Err e) (word ∷ words) = Err e
