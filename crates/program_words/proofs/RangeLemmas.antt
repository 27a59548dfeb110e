-- The numbers of the words are in their ranges.
use Rattle.std.proofs.Common.{◌≡◌, ◌≤◌, ℕ, Bool, true, false, List, codes, Option, Some, None, Result, Ok, Err, IfOk, if◌then◌else◌, sym, subst, arith}
use Rattle.std.specs.Option.{IfSome, option_map_or}
use Rattle.clap.specs.Words.{Row, fault_of, matches_of}
use Rattle.clap.specs.Walk.{is_empty}
use Rattle.scan_model.specs.declared.NoMemory.{NoMemory}
use Rattle.program_words.specs.declared.reading.Input.{Input}
use Rattle.program_words.specs.declared.reading.Usage.{Usage}
use Rattle.program_words.specs.declared.reading.Words.{Words}
use Rattle.program_words.specs.Options.{app}
use Rattle.program_words.specs.Words.{HasRanges, InputFits, by_rows, input_of, is_known_format, schedule_of, units_of, usage, value, words_of, words_with, workers_of}

workers_range : (text : Option (List ℕ)) → (1 ≤ workers_of text) × (workers_of text ≤ 64)
workers_range None = (omega arith, omega arith)
workers_range (Some number) = (omega arith, omega arith)

schedule_range : (text : Option (List ℕ)) → schedule_of text ≤ 2147483647
schedule_range None = omega arith
schedule_range (Some number) = omega arith

units_range : (text : List ℕ) → (1 ≤ units_of text) × (units_of text ≤ 4096)
units_range text = (omega arith, omega arith)

input_range : (database made : Option (List ℕ)) → IfSome (input_of database made) InputFits
input_range (Some path) None = tt
input_range None (Some text) = units_range text
input_range (Some path) (Some text) = tt
input_range None None = tt

ranges : (rows : List Row) (input : Input) → InputFits input → HasRanges (words_with rows input)
ranges rows input fits =
    let workers = workers_range (value (codes "j") rows) in
    record { some_worker = workers.0; few_workers = workers.1; schedule = schedule_range (value (codes "schedule") rows); input = fits }

named : (rows : List Row) (known : Bool) (input : Option Input) → IfSome input InputFits → IfOk (if known then option_map_or (λ input. Ok (words_with rows input)) input (Err usage) else Err usage) HasRanges
named rows true (Some input) fits = ranges rows input fits
named rows true None fits = tt
named rows false (Some input) fits = tt
named rows false None fits = tt

faultless : (rows : List Row) (fine : Bool) → IfOk (if fine then by_rows rows else Err usage) HasRanges
faultless rows true =
    let database = value (codes "compilation-database") rows in
    let made = value (codes "made") rows in
    named rows (is_known_format (value (codes "format") rows)) (input_of database made) (input_range database made)
faultless rows false = tt

words_ranges : (words : List (List ℕ)) → IfOk (words_of words) HasRanges
unfolding words_of
words_ranges words = faultless (matches_of app words) (is_empty (fault_of app words))

pub read_ranges : (words : List (List ℕ)) (r : Result (Result Words Usage) NoMemory) → IfOk r (λ read. read ≡ words_of words) → IfOk r (λ read. IfOk read HasRanges)
read_ranges words (Ok read) is = subst (λ w. IfOk w HasRanges) (sym is) (words_ranges words)
read_ranges words (Err none) is = tt
