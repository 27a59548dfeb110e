-- What the program's words ask for, by what `clap` reads of them.
use Rattle.std.specs.Prelude.{◌≡◌, ◌≤◌, ⊤, ℕ, true, false, Bool, not, ◌==◌, min, max, if◌then◌else◌, List, [], ◌∷◌, ◌++◌, length, map, filter, codes, Option, Some, None, option_map, Result, Ok, Err, String, string_bytes}
use Rattle.std.specs.declared.alloc.Global.{Global}
use Rattle.std.specs.Option.{option_map_or}
use Rattle.std.specs.List.{slice_split}
use Rattle.clap.specs.Words.{Row, fault_of, first_of, found_of, matches_of, rows_of}
use Rattle.clap.specs.declared.parser.matches.ArgMatches.{ArgMatches}
use Rattle.clap.specs.Walk.{byte_or_zero, is_empty}
use Rattle.scan_model.specs.declared.command.Settings.{Settings}
use Rattle.scan_model.specs.Limits.{file_limit}
use Rattle.scan_model.specs.Paths.{normal}
use Rattle.scan_model.specs.TokenTests.{same}
use Rattle.program_words.specs.declared.reading.Input.{Input}
use Rattle.program_words.specs.declared.reading.Input.TheVariants.{Database, Made}
use Rattle.program_words.specs.declared.reading.Usage.{Usage}
use Rattle.program_words.specs.declared.reading.Words.{Words}
use Rattle.program_words.specs.Numbers.{number_or_zero}
use Rattle.program_words.specs.Options.{app}

abbrev pub texts_of : List (String Global) → List (List ℕ)
texts_of words = map (λ word. string_bytes word) words

abbrev pub is_known_format : Option (List ℕ) → Bool
is_known_format format = option_map_or (λ name. same name (codes "p1689")) format false

-- the number of workers; `clap` takes no text but of a number from 1 to 64
abbrev pub workers_of : Option (List ℕ) → ℕ
workers_of text = option_map_or (λ number. max 1 (min 64 (byte_or_zero number))) text 4

-- the number of the schedule; `clap` takes no text but of a number below 2 ^ 31
abbrev pub schedule_of : Option (List ℕ) → ℕ
schedule_of text = option_map_or (λ number. min 2147483647 (number_or_zero number)) text 0

-- the number of units of a made tree; `clap` takes no text but of a number from 1 to 4096
abbrev pub units_of : List ℕ → ℕ
units_of text = max 1 (min 4096 (number_or_zero text))

-- what is to be scanned: exactly one of a database and a made tree is named
abbrev pub input_of : Option (List ℕ) → Option (List ℕ) → Option Input
input_of (Some path) None = Some (Database (normal path))
input_of None (Some text) = Some (Made (units_of text))
input_of (Some path) (Some text) = None
input_of None None = None

-- the folders that stand between colons, none of them empty
abbrev pub is_colon : ℕ → Bool
is_colon c = c == 58

abbrev pub is_named : List ℕ → Bool
is_named folder = not (length folder == 0)

-- the folders with that of one more part
abbrev pub with_part : List (List ℕ) → List ℕ → List (List ℕ)
with_part folders part = if is_named part then folders ++ normal part ∷ [] else folders

abbrev pub folders_in : List (List ℕ) → List (List ℕ)
folders_in parts = map (λ part. normal part) (filter is_named parts)

abbrev pub folders_of : Option (List ℕ) → List (List ℕ)
folders_of text = option_map_or (λ folders. folders_in (slice_split is_colon folders)) text []

-- the value of an option, if it has one
abbrev pub value : List ℕ → List Row → Option (List ℕ)
value name rows = first_of name rows

abbrev pub settings_of : List Row → Settings
settings_of rows = record {
  predefines = option_map (λ path. normal path) (value (codes "predefines") rows);
  program = folders_of (value (codes "system-dirs") rows);
}

abbrev pub words_with : List Row → Input → Words
words_with rows input = record {
  input = input;
  workers = workers_of (value (codes "j") rows);
  schedule = schedule_of (value (codes "schedule") rows);
  settings = settings_of rows;
}

abbrev pub usage : Usage
usage = record {}

-- refused where the format isn't known, or not exactly one of a database and a made tree is named
abbrev pub by_rows : List Row → Result Words Usage
by_rows rows =
    if is_known_format (value (codes "format") rows)
    then option_map_or (λ input. Ok (words_with rows input)) (input_of (value (codes "compilation-database") rows) (value (codes "made") rows)) (Err usage)
    else Err usage

abbrev pub by_parse : Option ArgMatches → Result Words Usage
by_parse None = Err usage
by_parse (Some m) = by_rows (rows_of (found_of m))

-- what a parse of the words gives: their matches, or nothing where `clap` finds a fault in them
abbrev pub IsParse : List (List ℕ) → Option ArgMatches → Type 0
IsParse words None = is_empty (fault_of app words) ≡ false
IsParse words (Some m) = (is_empty (fault_of app words) ≡ true) × (rows_of (found_of m) ≡ matches_of app words)

-- what the words ask for; refused too where `clap` finds a fault in them
unfoldable pub words_of : List (List ℕ) → Result Words Usage
words_of words = if is_empty (fault_of app words) then by_rows (matches_of app words) else Err usage

-- a made tree has 1 to 4096 units
abbrev pub InputFits : Input → Type 0
InputFits (Database path) = ⊤
InputFits (Made units) = (1 ≤ units) × (units ≤ 4096)

-- there are to be 1 to 64 workers, the schedule's number is below 2 ^ 31, and a made tree isn't too large
pub record HasRanges (words : Words) : Type 0 where
  pub some_worker : 1 ≤ words.workers
  pub few_workers : words.workers ≤ 64
  pub schedule : words.schedule ≤ 2147483647
  pub input : InputFits words.input

-- a word that is no longer than the words of a command line may be
abbrev pub IsShortWord : String Global → Type 0
IsShortWord word = length (string_bytes word) ≤ file_limit
