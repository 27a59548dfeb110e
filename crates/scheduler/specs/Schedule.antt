-- The schedule: which worker makes each step, by a number that goes through a fixed sequence, and where that leads.
use Rattle.std.specs.Prelude.{◌≡◌, ℕ, zero, suc, ◌+◌, ◌*◌, ◌/◌, ◌%◌, ◌^◌, Bool, true, false, List, [], ◌∷◌, ◌++◌, length, slice_get, Option, Some, None}
use Rattle.std.specs.List.{filter, AllByRecursion}
use Rattle.scan_model.specs.declared.command.Settings.{Settings}
use Rattle.scan_model.specs.declared.command.Job.{Job}
use Rattle.scan_model.specs.Files.{FileMap, Content}
use Rattle.scan_model.specs.Files as file
use Rattle.cache_machine.specs.Machine.{Machine, Over}
use Rattle.cache_machine.specs.Steps.{Event, Draw, Look, Read, Publish, End, act}
use Rattle.cache_machine.specs.Runs.{start}
use Rattle.cache_machine.specs.Wants.{Want, Draw_wanted, Look_wanted, Read_wanted, Publish_wanted, End_wanted, Waits, Is_over, wants, wanted}

-- the number before each step
abbrev pub next_number : ℕ → ℕ
next_number x = (x * 1103515245 + 12345) % 2 ^ 31

-- of these workers the one at place (x / 65536) modulo their number
abbrev pub chosen : List ℕ → ℕ → Option ℕ
chosen workers x = slice_get workers ((x / 65536) % length workers)

abbrev pub can_move : Want → Bool
can_move Waits = false
can_move Is_over = false
can_move want = true

-- the numbers below n
abbrev pub numbers_below : ℕ → List ℕ
numbers_below zero = []
numbers_below (suc n) = numbers_below n ++ n ∷ []

-- the machine, the number, and the paths in order of their Publish events
pub record Scheduled : Type 0 where
  pub machine : Machine
  pub number : ℕ
  pub published : List (List ℕ)

abbrev pub content_or : Option (Content (List ℕ)) → Content (List ℕ)
content_or None = file.NoMemory
content_or (Some content) = content

-- the path, if the event publishes it
abbrev pub published_by : Event → Option (List ℕ) → List (List ℕ)
published_by (Publish w) (Some path) = path ∷ []
published_by event path = []

-- so many workers, with this number
abbrev pub scheduled_start : List Job → ℕ → ℕ → Scheduled
scheduled_start jobs workers number = record { machine = start jobs workers; number = number; published = [] }

module _ (jobs : List Job) (settings : Settings) where
  -- the workers below n that can move, in order of number
  abbrev pub movers_below : Machine → ℕ → List ℕ
  movers_below m n = filter (λ w. can_move (wants jobs settings m w)) (numbers_below n)

  -- the workers that can move
  abbrev pub movers : Machine → List ℕ
  movers m = movers_below m (length m.workers)

  module _ (files : FileMap (List ℕ)) where
    -- what the read of a path gives: what the map has
    abbrev pub read_in : Option (List ℕ) → Content (List ℕ)
    read_in None = file.NoMemory
    read_in (Some path) = content_or (files path)

    -- the event that the worker wants
    abbrev pub event_for : ℕ → Option (List ℕ) → Want → Option Event
    event_for w path Draw_wanted = Some (Draw w)
    event_for w path Look_wanted = Some (Look w)
    event_for w path Read_wanted = Some (Read w (read_in path))
    event_for w path Publish_wanted = Some (Publish w)
    event_for w path End_wanted = Some (End w)
    event_for w path want = None

    abbrev pub wanted_event : Machine → ℕ → Option Event
    wanted_event m w = event_for w (wanted jobs settings m w) (wants jobs settings m w)

    -- the worker makes its step
    abbrev pub steps_by : Scheduled → ℕ → ℕ → Option Event → Scheduled
    steps_by s x w None = s
    steps_by s x w (Some event) = record {
      machine = act jobs settings s.machine event;
      number = x;
      published = s.published ++ published_by event (wanted jobs settings s.machine w);
    }

    abbrev pub step_of : Scheduled → ℕ → Option ℕ → Scheduled
    step_of s x None = s
    step_of s x (Some w) = steps_by s x w (wanted_event s.machine w)

    -- one step; where no worker can move it is the same again
    abbrev pub scheduled_step : Scheduled → Scheduled
    scheduled_step s = let x = next_number s.number in step_of s x (chosen (movers s.machine) x)

    abbrev pub scheduled_steps : ℕ → Scheduled → Scheduled
    scheduled_steps zero s = s
    scheduled_steps (suc count) s = scheduled_steps count (scheduled_step s)

    -- the whole run of so many workers, on the schedule that begins with this number, ends here: every worker is over
    pub record IsScheduledRun (workers number : ℕ) (last : Scheduled) : Type 0 where
      pub count : ℕ
      pub steps : scheduled_steps count (scheduled_start jobs workers number) ≡ last
      pub over : AllByRecursion (λ worker. worker ≡ Over) last.machine.workers
