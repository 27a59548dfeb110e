-- What a worker does next, and with which path.
use Rattle.std.specs.Prelude.{ℕ, List, Option, Some, None}
use Rattle.scan_model.specs.declared.command.Settings.{Settings}
use Rattle.scan_model.specs.declared.command.Job.{Job}
use Rattle.cache_machine.specs.Rows.{Held, Claimed, Row, held_at}
use Rattle.cache_machine.specs.Machine.{Machine, Worker, Idle, At, Claiming, Holding, Spent, Over, worker_at}
use Rattle.cache_machine.specs.JobLooks.{path_at}

pub data Want : Type 0 where
  Draw_wanted Look_wanted Read_wanted Publish_wanted End_wanted Waits Is_over : Want

-- it waits where another claimed its path
abbrev pub wants_held : Option Held → Want
wants_held (Some (Claimed v)) = Waits
wants_held held = Look_wanted

abbrev pub wants_path : List Row → Option (List ℕ) → Want
wants_path rows None = End_wanted
wants_path rows (Some path) = wants_held (held_at rows path)

module _ (jobs : List Job) (settings : Settings) where
  abbrev pub wants_as : List Row → Worker → Want
  wants_as rows Idle = Draw_wanted
  wants_as rows (At n k) = wants_path rows (path_at jobs settings rows n k)
  wants_as rows (Claiming n k) = Read_wanted
  wants_as rows (Holding n k content) = Publish_wanted
  wants_as rows (Spent n) = End_wanted
  wants_as rows Over = Is_over

  abbrev pub wants : Machine → ℕ → Want
  wants m w = wants_as m.rows (worker_at m w)

  -- the path that it looks at, reads, publishes or waits for
  abbrev pub wanted_as : List Row → Worker → Option (List ℕ)
  wanted_as rows (At n k) = path_at jobs settings rows n k
  wanted_as rows (Claiming n k) = path_at jobs settings rows n k
  wanted_as rows (Holding n k content) = path_at jobs settings rows n k
  wanted_as rows worker = None

  abbrev pub wanted : Machine → ℕ → Option (List ℕ)
  wanted m w = wanted_as m.rows (worker_at m w)
