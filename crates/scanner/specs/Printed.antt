-- What a run prints for the ends of its commands, and its status: a text to the output, the document or another, and a
-- line for each end that is no record to the error output.
use Rattle.std.specs.Prelude.{◌≡◌, ◌≢◌, ◌⊎◌, ℕ, suc, Bool, true, false, if◌then◌else◌, List, [], ◌∷◌, ◌++◌}
use Rattle.std.specs.List.{list_any}
use Rattle.scan_model.specs.declared.unit_end.UnitEnd.{UnitEnd}
use Rattle.scan_model.specs.declared.unit_end.UnitEnd.TheVariants.{Record, Stopped, Refused, NoMemory}
use Rattle.report.specs.FaultLines.{fault_line}
use Rattle.scanner.specs.declared.status.Status.{Status}
use Rattle.scanner.specs.declared.status.Status.TheVariants.{Fine, SomeFailed, SinkFault}
use Rattle.scanner.specs.declared.status.Status.TheVariants as Statuses
use Rattle.scanner.specs.Statuses.{number}
use Rattle.scanner.specs.Sinks.{Change, GotNothing, GotAll, GotAny, GotPart}

abbrev pub is_record : UnitEnd → Bool
is_record (Record record_) = true
is_record (Stopped fault) = false
is_record (Refused fault) = false
is_record NoMemory = false

abbrev pub is_no_memory : UnitEnd → Bool
is_no_memory (Record record_) = false
is_no_memory (Stopped fault) = false
is_no_memory (Refused fault) = false
is_no_memory NoMemory = true

abbrev pub is_failure : UnitEnd → Bool
is_failure end = if is_record end then false else true

-- the line of an end that isn't a record
abbrev pub line_of : ℕ → UnitEnd → List ℕ
line_of number end = if is_record end then [] else fault_line number end

-- one line for each end that isn't a record, the first end having this number
abbrev pub lines_from : ℕ → List UnitEnd → List ℕ
lines_from number [] = []
lines_from number (end ∷ ends) = line_of number end ++ lines_from (suc number) ends

abbrev pub diagnostics : List UnitEnd → List ℕ
diagnostics ends = lines_from 1 ends

-- how a run with these ends ends: some command found no memory, or else some failed, or else all is fine
abbrev pub status_of : List UnitEnd → Status
status_of ends = if list_any is_no_memory ends then Statuses.NoMemory else if list_any is_failure ends then SomeFailed else Fine

-- the same where a sink failed
abbrev pub failed_status : List UnitEnd → Status
failed_status ends = if list_any is_no_memory ends then Statuses.NoMemory else SinkFault

-- the text was put to the output, and then the lines, where there are any, to the error output
pub record PrintedAll (text : List ℕ) (ends : List UnitEnd) (out err : Change) (status : ℕ) : Type 0 where
  pub status_is : status ≡ number (status_of ends)
  pub text_put : GotAll text out
  pub lines_put : GotAny (diagnostics ends) err

-- the output failed, and nothing was put to the error output
pub record OutputFailed (text : List ℕ) (ends : List UnitEnd) (out err : Change) (status : ℕ) : Type 0 where
  pub status_is : status ≡ number (failed_status ends)
  pub text_begun : GotPart text out
  pub no_lines : GotNothing err

-- there are lines, and the error output failed
pub record LinesFailed (text : List ℕ) (ends : List UnitEnd) (out err : Change) (status : ℕ) : Type 0 where
  pub status_is : status ≡ number (failed_status ends)
  pub text_put : GotAll text out
  pub some_lines : diagnostics ends ≢ []
  pub lines_begun : GotPart (diagnostics ends) err

abbrev pub IsPrinted : List ℕ → List UnitEnd → Change → Change → ℕ → Type 0
IsPrinted text ends out err status = PrintedAll text ends out err status ⊎ (OutputFailed text ends out err status ⊎ LinesFailed text ends out err status)
