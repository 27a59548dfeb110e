-- What a job looks at, and its answer, as far as the rows tell.
use Rattle.std.specs.Prelude.{ℕ, List, [], slice_get, Option, Some, None}
use Rattle.scan_model.specs.declared.command.Settings.{Settings}
use Rattle.scan_model.specs.declared.command.Job.{Job}
use Rattle.scan_model.specs.declared.unit_end.UnitEnd.{UnitEnd}
use Rattle.scan_model.specs.Files.{FileMap}
use Rattle.scan_model.specs.Answer.{Answer, Known, Unread, answer, looked}
use Rattle.cache_machine.specs.Rows.{Row, map_of}

abbrev pub looked_by_job : Settings → FileMap (List ℕ) → Option Job → List (List ℕ)
looked_by_job settings files None = []
looked_by_job settings files (Some job) = looked files settings job

abbrev pub answer_by_job : Settings → FileMap (List ℕ) → Option Job → Answer
answer_by_job settings files None = Unread []
answer_by_job settings files (Some job) = answer files settings job

module _ (jobs : List Job) (settings : Settings) where
  -- all paths that job n looks at
  abbrev pub looks_of : List Row → ℕ → List (List ℕ)
  looks_of rows n = looked_by_job settings (map_of rows) (slice_get jobs n)

  -- the k-th of them, from 0, where there is one
  abbrev pub path_at : List Row → ℕ → ℕ → Option (List ℕ)
  path_at rows n k = slice_get (looks_of rows n) k

  -- job n's answer
  abbrev pub answer_at : List Row → ℕ → Answer
  answer_at rows n = answer_by_job settings (map_of rows) (slice_get jobs n)

-- an answer that lacks a path is no end
abbrev pub end_in : Answer → Option UnitEnd
end_in (Known end) = Some end
end_in (Unread path) = None
