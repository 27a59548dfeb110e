-- Moments of a run on the schedule, as far as the machine goes.
use Rattle.std.specs.Prelude.{◌≡◌, ◌⊎◌, ℕ, List, slice_get, Some}
use Rattle.scan_model.specs.declared.command.Settings.{Settings}
use Rattle.scan_model.specs.declared.command.Job.{Job}
use Rattle.scan_model.specs.declared.unit_end.UnitEnd.TheVariants as Ends
use Rattle.scan_model.specs.Files.{FileMap, Content}
use Rattle.cache_machine.specs.Rows.{map_of}
use Rattle.cache_machine.specs.Machine.{Machine, Holding, Spent, worker_at}
use Rattle.cache_machine.specs.JobLooks.{path_at}
use Rattle.cache_machine.specs.Steps.{Event, act}
use Rattle.cache_machine.specs.Spending.{spend}
use Rattle.scan_core.specs.Events.{worker_in, IsSpent, RunsUnit}

-- memory was wanting for some job
abbrev pub IsShort : Machine → Type 0
IsShort m = (n : ℕ) × ((slice_get m.ends n ≡ Some (Some Ends.NoMemory)) ⊎ ((w : ℕ) × (worker_at m w ≡ Spent n)))

module _ (jobs : List Job) (settings : Settings) where
  -- the event's worker made its step, or memory was wanting for it
  abbrev pub HasMoved : Event → Machine → Machine → Type 0
  HasMoved event old new = (new ≡ act jobs settings old event) ⊎ ((new ≡ spend jobs old event) × (IsSpent new (worker_in event) × RunsUnit event))

  -- the files have all that was read: what is done, and what workers hold
  pub record HaveRead (files : FileMap (List ℕ)) (m : Machine) : Type 0 where
    pub done : (path : List ℕ) (content : Content (List ℕ)) → map_of m.rows path ≡ Some content → files path ≡ Some content
    pub held : (w n k : ℕ) (content : Content (List ℕ)) (path : List ℕ) → worker_at m w ≡ Holding n k content → path_at jobs settings m.rows n k ≡ Some path → files path ≡ Some content
