-- How a job's scan ends over a file map, and which paths that looks at.
use Rattle.std.specs.Prelude.{ℕ, List, []}
use Rattle.std.specs.declared.result.Result.{Result}
use Rattle.std.specs.declared.result.Result.TheVariants.{Ok, Err}
use Rattle.scan_model.specs.declared.command.Settings.{Settings}
use Rattle.scan_model.specs.declared.command.Command.{Command}
use Rattle.scan_model.specs.declared.command.Job.{Job}
use Rattle.scan_model.specs.declared.unit_end.UnitEnd.{UnitEnd}
use Rattle.scan_model.specs.Lines.{lines}
use Rattle.scan_model.specs.Files.{FileMap}
use Rattle.scan_model.specs.State.{Reached, Going, Stopped, Cause, Faulty, OutOfMemory, Needs}
use Rattle.scan_model.specs.Stream.{ModuleStop, read_stream}
use Rattle.scan_model.specs.WholeFile.{View}
use Rattle.scan_model.specs.WholeUnit.{full}
use Rattle.scan_model.specs.ModuleLines.{Builder}
use Rattle.scan_model.specs.Effect.{fault, stop}
use Rattle.scan_model.specs.declared.command.Job.TheVariants as JobIs
use Rattle.scan_model.specs.declared.unit_end.UnitEnd.TheVariants as Ends

-- an end, or the path that the map would have to have
pub data Answer : Type 0 where
  Known : UnitEnd → Answer
  Unread : List ℕ → Answer

abbrev pub answer_of : Cause → Answer
answer_of (Faulty fault) = Known (Ends.Stopped fault)
answer_of OutOfMemory = Known Ends.NoMemory
answer_of (Needs path) = Unread path

-- the module fault, if there is one, and else what the end of the run gives
abbrev pub fault_or : Answer → Result Builder ModuleStop → Answer
fault_or other (Err stop) = Known (Ends.Stopped stop.fault)
fault_or other (Ok b) = other

abbrev pub record_of : Result Builder ModuleStop → Answer
record_of (Ok b) = Known (Ends.Record b.so_far)
record_of (Err stop) = Known (Ends.Stopped stop.fault)

abbrev pub looked_of : List (List ℕ) → Result Builder ModuleStop → List (List ℕ)
looked_of looked (Ok b) = looked
looked_of looked (Err stop) = stop.looked

abbrev pub end_of : Command → Reached → Answer
end_of command (Going s) = record_of (read_stream command s.stream)
end_of command (Stopped stop) = fault_or (answer_of stop.cause) (read_stream command stop.stream)

abbrev pub looks_of : Command → Reached → List (List ℕ)
looks_of command (Going s) = looked_of s.core.looked (read_stream command s.stream)
looks_of command (Stopped stop) = looked_of stop.looked (read_stream command stop.stream)

-- the job's end, where files are seen in this way
abbrev pub answer_by : {X : Type 0} → View X → FileMap X → Settings → Job → Answer
answer_by view files settings (JobIs.Refused fault) = Known (Ends.Refused fault)
answer_by view files settings (JobIs.Run command) = end_of command (full view files (record { settings = settings; command = command }))

abbrev pub looked_by : {X : Type 0} → View X → FileMap X → Settings → Job → List (List ℕ)
looked_by view files settings (JobIs.Refused fault) = []
looked_by view files settings (JobIs.Run command) = looks_of command (full view files (record { settings = settings; command = command }))

unfoldable pub answer : FileMap (List ℕ) → Settings → Job → Answer
answer = answer_by lines

unfoldable pub looked : FileMap (List ℕ) → Settings → Job → List (List ℕ)
looked = looked_by lines
