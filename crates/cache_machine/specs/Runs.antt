-- Whole runs: any workers' moves, in any order, from the start.
use Rattle.std.specs.Prelude.{◌≡◌, ℕ, List, [], ◌∷◌, map, replicate, None}
use Rattle.scan_model.specs.declared.command.Settings.{Settings}
use Rattle.scan_model.specs.declared.command.Job.{Job}
use Rattle.cache_machine.specs.Machine.{Machine, Idle}
use Rattle.cache_machine.specs.Steps.{Event, act}
use Rattle.cache_machine.specs.Spending.{spend}

-- an event that goes well, or that finds no memory
pub data Move : Type 0 where
  Goes : Event → Move
  Fails : Event → Move

-- so many workers are idle; nothing is claimed, drawn or recorded
abbrev pub start : List Job → ℕ → Machine
start jobs workers = record { rows = []; next = 0; workers = replicate workers Idle; ends = map (λ job. None) jobs }

module _ (jobs : List Job) (settings : Settings) where
  abbrev pub moved : Machine → Move → Machine
  moved m (Goes event) = act jobs settings m event
  moved m (Fails event) = spend jobs m event

  abbrev pub run : List Move → Machine → Machine
  run [] m = m
  run (move ∷ moves) m = run moves (moved m move)

  -- some moves lead here from the start with so many workers
  abbrev pub IsReached : ℕ → Machine → Type 0
  IsReached workers m = (moves : List Move) × (run moves (start jobs workers) ≡ m)
