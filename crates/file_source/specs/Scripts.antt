-- What a script gives for the asks of a path.
use Rattle.std.specs.Prelude.{ℕ, ◌-◌, min, List, [], ◌∷◌, length, if◌then◌else◌, count_by, slice_index_or}
use Rattle.std.specs.Str.{bytes_eq}
use Rattle.file_source.specs.declared.given.Came.{Came}
use Rattle.file_source.specs.declared.given.Came.TheVariants.{Absent as CameAbsent, Failed as CameFailed}
use Rattle.file_source.specs.declared.memory_source.Scripted.{Scripted}
use Rattle.file_source.specs.declared.memory_source.ScriptedOutcome.{ScriptedOutcome}
use Rattle.file_source.specs.declared.memory_source.ScriptedOutcome.TheVariants.{Bytes, Absent, Failed}
use Rattle.file_source.specs.CameOf.{came_of_bytes}

-- how often the path was asked for
abbrev pub times : List ℕ → List (List ℕ) → ℕ
times path asked = count_by (λ other. bytes_eq other path) asked

-- the outcome of this number, from 0, the last one again afterwards, and Absent where there is none
abbrev pub outcome_at : List ScriptedOutcome → ℕ → ScriptedOutcome
outcome_at outcomes number = slice_index_or outcomes (min number (length outcomes - 1)) Absent

-- what the ask of this number, from 0, gives for the path
abbrev pub scripted_at : List Scripted → List ℕ → ℕ → ScriptedOutcome
scripted_at [] path number = Absent
scripted_at (file ∷ files) path number =
    if bytes_eq file.path path then outcome_at file.outcomes number else scripted_at files path number

-- what comes of a read that gives this
abbrev pub came_of_script : ScriptedOutcome → Came
came_of_script (Bytes bytes) = came_of_bytes bytes
came_of_script Absent = CameAbsent
came_of_script Failed = CameFailed 0
