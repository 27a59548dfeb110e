-- One step of one worker. A worker that isn't where the event wants it leaves the machine as it is.
use Rattle.std.specs.Prelude.{ℕ, ◌+◌, nat_lt, if◌then◌else◌, List, [], ◌∷◌, ◌++◌, map, length, slice_set, Option, Some, None}
use Rattle.scan_model.specs.declared.command.Settings.{Settings}
use Rattle.scan_model.specs.declared.command.Job.{Job}
use Rattle.scan_model.specs.declared.unit_end.UnitEnd.{UnitEnd}
use Rattle.scan_model.specs.declared.unit_end.UnitEnd.TheVariants as Ends
use Rattle.scan_model.specs.Files.{Content}
use Rattle.cache_machine.specs.Rows.{Held, Claimed, Done, held_at, published}
use Rattle.cache_machine.specs.Machine.{Machine, Worker, Idle, At, Claiming, Holding, Spent, Over, worker_at, with_worker}
use Rattle.cache_machine.specs.JobLooks.{path_at, answer_at, end_in}

-- what a worker does; the content is what a read gave
pub data Event : Type 0 where
  Draw : (w : ℕ) → Event
  Look : (w : ℕ) → Event
  Read : (w : ℕ) → Content (List ℕ) → Event
  Publish : (w : ℕ) → Event
  End : (w : ℕ) → Event

-- ## Draw: an idle worker takes the next number, of a job or past the last

abbrev pub drawn : List Job → ℕ → Worker
drawn jobs n = if nat_lt n (length jobs) then At n 0 else Over

abbrev pub draw : List Job → Machine → ℕ → Worker → Machine
draw jobs m w Idle = record m { next = m.next + 1; workers = slice_set m.workers w (drawn jobs m.next) }
draw jobs m w worker = m

-- ## Look: a path without a row is claimed, one that is done answers the look, one that is claimed changes nothing

abbrev pub claim : Machine → ℕ → ℕ → ℕ → List ℕ → Machine
claim m w n k path = record m { rows = m.rows ++ record { path = path; held = Claimed w } ∷ []; workers = slice_set m.workers w (Claiming n k) }

abbrev pub look_held : Machine → ℕ → ℕ → ℕ → List ℕ → Option Held → Machine
look_held m w n k path None = claim m w n k path
look_held m w n k path (Some (Done content)) = with_worker m w (At n (k + 1))
look_held m w n k path (Some (Claimed v)) = m

abbrev pub look_path : Machine → ℕ → ℕ → ℕ → Option (List ℕ) → Machine
look_path m w n k None = m
look_path m w n k (Some path) = look_held m w n k path (held_at m.rows path)

abbrev pub look : List Job → Settings → Machine → ℕ → Worker → Machine
look jobs settings m w (At n k) = look_path m w n k (path_at jobs settings m.rows n k)
look jobs settings m w worker = m

-- ## Read: the worker holds what the path that it claimed was read with

abbrev pub read : Machine → ℕ → Content (List ℕ) → Worker → Machine
read m w content (Claiming n k) = with_worker m w (Holding n k content)
read m w content worker = m

-- ## Publish: the row that it claimed is done with that, and its look is answered

abbrev pub publish_as : Machine → ℕ → Content (List ℕ) → Worker → Machine
publish_as m w content worker = record m { rows = map (published w content) m.rows; workers = slice_set m.workers w worker }

abbrev pub publish : Machine → ℕ → Worker → Machine
publish m w (Holding n k content) = publish_as m w content (At n (k + 1))
publish m w worker = m

-- ## End: where its job looks at nothing more, the job's answer is recorded; where it is out of memory, that is

abbrev pub record_end : Machine → ℕ → ℕ → Option UnitEnd → Machine
record_end m w n end = record m { workers = slice_set m.workers w Idle; ends = slice_set m.ends n end }

module _ (jobs : List Job) (settings : Settings) where
  abbrev pub end_path : Machine → ℕ → ℕ → Option (List ℕ) → Machine
  end_path m w n None = record_end m w n (end_in (answer_at jobs settings m.rows n))
  end_path m w n (Some path) = m

  abbrev pub end : Machine → ℕ → Worker → Machine
  end m w (At n k) = end_path m w n (path_at jobs settings m.rows n k)
  end m w (Spent n) = record_end m w n (Some Ends.NoMemory)
  end m w worker = m

  -- ## The step

  abbrev pub act : Machine → Event → Machine
  act m (Draw w) = draw jobs m w (worker_at m w)
  act m (Look w) = look jobs settings m w (worker_at m w)
  act m (Read w content) = read m w content (worker_at m w)
  act m (Publish w) = publish m w (worker_at m w)
  act m (End w) = end m w (worker_at m w)
