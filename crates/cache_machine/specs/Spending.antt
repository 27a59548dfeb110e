-- One step that finds no memory: the worker is out of memory in its job.
use Rattle.std.specs.Prelude.{ℕ, ◌+◌, nat_lt, if◌then◌else◌, List, length, slice_set}
use Rattle.scan_model.specs.declared.command.Job.{Job}
use Rattle.cache_machine.specs.Machine.{Machine, Worker, Idle, At, Holding, Spent, worker_at, with_worker}
use Rattle.cache_machine.specs.Steps.{Event, Draw, Look, Publish, publish_as}

-- a job's number is taken all the same
abbrev pub draw_spent : List Job → Machine → ℕ → Worker → Machine
draw_spent jobs m w Idle =
    if nat_lt m.next (length jobs) then record m { next = m.next + 1; workers = slice_set m.workers w (Spent m.next) } else m
draw_spent jobs m w worker = m

-- nothing is claimed
abbrev pub look_spent : Machine → ℕ → Worker → Machine
look_spent m w (At n k) = with_worker m w (Spent n)
look_spent m w worker = m

-- the row is done all the same
abbrev pub publish_spent : Machine → ℕ → Worker → Machine
publish_spent m w (Holding n k content) = publish_as m w content (Spent n)
publish_spent m w worker = m

-- a read and an end take no memory of their own
abbrev pub spend : List Job → Machine → Event → Machine
spend jobs m (Draw w) = draw_spent jobs m w (worker_at m w)
spend jobs m (Look w) = look_spent m w (worker_at m w)
spend jobs m (Publish w) = publish_spent m w (worker_at m w)
spend jobs m event = m
