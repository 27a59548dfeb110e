-- What is to be done for an entry of the database.
use Rattle.std.specs.Prelude.{ℕ, List, drop, Option, unwrap_or, Result, Ok, Err}
use Rattle.scan_model.specs.declared.command.Command.{Command}
use Rattle.scan_model.specs.declared.command.CommandFault.{CommandFault}
use Rattle.scan_model.specs.declared.command.CommandFault.TheVariants as FaultIs
use Rattle.scan_model.specs.declared.command.Job.{Job}
use Rattle.scan_model.specs.declared.command.Job.TheVariants.{Run, Refused}
use Rattle.scan_model.specs.Paths.{normal, join}
use Rattle.compile_db.specs.declared.Entry.{Entry}
use Rattle.compile_db.specs.declared.EntryWords.{EntryWords}
use Rattle.compile_db.specs.declared.EntryWords.TheVariants as WordsAre
use Rattle.command_words.specs.declared.bad_command.BadCommand.{BadCommand}
use Rattle.command_words.specs.declared.reading.Reading.{Reading}
use Rattle.command_words.specs.Commands.{object_of, main_of}
use Rattle.command_words.specs.Reading.{nothing_read, walk}
use Rattle.command_words.specs.Splitting.{split}

-- the words of an entry, the compiler first
abbrev pub words_of : EntryWords → Result (List (List ℕ)) BadCommand
words_of (WordsAre.Arguments words) = Ok words
words_of (WordsAre.Command text) = split text

-- what the command makes: what the entry says, or else the last `-o`, or else the file's object
abbrev pub output_of : Entry → Option (List ℕ) → List ℕ
output_of entry last = unwrap_or entry.output (unwrap_or last (object_of entry.file))

abbrev pub command_by : Entry → Reading → Command
command_by entry r = record {
  directory = normal entry.directory;
  main = main_of entry;
  source = main_of entry;
  output = output_of entry r.output;
  settings = r.settings;
  forced = r.forced;
  search = r.search;
  dialect = r.dialect;
}

abbrev pub job_by : Entry → Result Reading CommandFault → Job
job_by entry (Ok r) = Run (command_by entry r)
job_by entry (Err fault) = Refused fault

-- the first word, the compiler, is passed over
abbrev pub job_of_words : Entry → Result (List (List ℕ)) BadCommand → Job
job_of_words entry (Ok words) = job_by entry (walk (normal entry.directory) (drop 1 words) nothing_read)
job_of_words entry (Err bad) = Refused FaultIs.BadCommand

-- the command, or the first of its faults from the left
unfoldable pub job_of : Entry → Job
job_of entry = job_of_words entry (words_of entry.words)
