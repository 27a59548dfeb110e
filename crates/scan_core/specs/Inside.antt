-- How a core is seen, and what it keeps.
use Rattle.std.specs.Prelude.{◌≡◌, ℕ, ◌+◌, ◌-◌, ◌*◌, ◌≤◌, List, map, length, sum, slice_get, Option, Some}
use Rattle.std.specs.List.{All}
use Rattle.std.specs.declared.alloc.Global.{Global}
use Rattle.std.specs.declared.vec.Vec.{Vec}
use Rattle.scan_model.specs.declared.command.Settings.{Settings}
use Rattle.scan_model.specs.declared.command.Job.{Job}
use Rattle.scan_model.specs.declared.unit_end.UnitEnd.{UnitEnd}
use Rattle.scan_model.specs.Files.{Content}
use Rattle.scan_model.specs.Fits.{JobFits, SettingsFit}
use Rattle.cache_machine.specs.Rows.{Held, Row}
use Rattle.cache_machine.specs.Machine.{Machine}
use Rattle.cache_machine.specs.Runs.{IsReached}
use Rattle.cache_machine.specs.Rows as row
use Rattle.scan_core.specs.CoreView.{CoreView}
use Rattle.scan_core.specs.Seats.{command_limit, left_at, worker_of, SeatFits}
use Rattle.scan_core.specs.declared.seat.Kept.{Kept}
use Rattle.scan_core.specs.declared.seat.Kept.TheVariants as KeptIs
use Rattle.scan_core.specs.declared.seat.Seat.{Seat}
use Rattle.scan_core.specs.declared.job_core.Core.TheInside.{Inside}

-- a row's path, and whether it is done
abbrev pub Entry : Type 0 → Type 0
Entry R = Vec ℕ Global × Kept R

-- what a core is made of
pub record State (R : Type 0) : Type 0 where
  pub jobs : List Job
  pub settings : Settings
  pub entries : List (Entry R)
  pub next : ℕ
  pub seats : List (Seat R)
  pub ends : List (Option UnitEnd)

abbrev pub state_of : {R : Type 0} → Inside R → State R
state_of c = record {
  jobs = c.jobs.now;
  settings = c.settings.now;
  entries = c.rows.entries;
  next = c.next;
  seats = c.seats.items;
  ends = c.ends.items;
}

-- falls with each step
abbrev pub left_in : {R : Type 0} → State R → ℕ
left_in s = (length s.jobs + length s.seats - s.next) * command_limit + sum (map left_at s.seats)

module _ {R : Type 0} (content : R → Content (List ℕ)) where
  -- ## The view

  abbrev pub held_of : Kept R → Held
  held_of (KeptIs.Claimed w) = row.Claimed w
  held_of (KeptIs.Done r) = row.Done (content r)

  abbrev pub row_of : Entry R → Row
  row_of entry = record { path = entry.0.items; held = held_of entry.1 }

  abbrev pub rows_of : State R → List Row
  rows_of s = map row_of s.entries

  abbrev pub machine_of : State R → Machine
  machine_of s = record { rows = rows_of s; next = s.next; workers = map (worker_of content) s.seats; ends = s.ends }

  abbrev pub seen : State R → CoreView
  seen s = record { jobs = s.jobs; settings = s.settings; machine = machine_of s; left = left_in s }

  abbrev pub view_of : Inside R → CoreView
  view_of c = seen (state_of c)

  -- ## What it keeps

  pub record HoldsAt (s : State R) : Type 0 where
    pub reached : IsReached s.jobs s.settings (length (map (worker_of content) s.seats)) (machine_of s)
    pub seats : (w : ℕ) (seat : Seat R) → slice_get s.seats w ≡ Some seat → SeatFits s.jobs s.settings (rows_of s) w seat
    pub jobs_fit : All (λ job. JobFits job) s.jobs
    pub settings_fit : SettingsFit s.settings
    pub few_jobs : length s.jobs ≤ 131072
    pub few_seats : length s.seats ≤ 64

  abbrev pub Holds : Inside R → Type 0
  Holds c = HoldsAt (state_of c)
