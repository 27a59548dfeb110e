-- What a worker's seat is: in the words of the machine, what it keeps, and what is left to it.
use Rattle.std.specs.Prelude.{◌≡◌, ℕ, ◌+◌, ◌-◌, ◌*◌, List, length, slice_get, Some, Result}
use Rattle.std.specs.declared.result.Result.TheVariants.{Ok, Err}
use Rattle.scan_model.specs.declared.memory.NoMemory.{NoMemory}
use Rattle.scan_model.specs.declared.command.Settings.{Settings}
use Rattle.scan_model.specs.declared.command.Job.{Job}
use Rattle.scan_model.specs.declared.command.Job.TheVariants as JobIs
use Rattle.scan_model.specs.declared.unit_end.UnitEnd.{UnitEnd}
use Rattle.scan_model.specs.declared.unit_end.UnitEnd.TheVariants as Ends
use Rattle.scan_model.specs.Files.{Content}
use Rattle.unit_laws.specs.KnownAnswers.{Agrees}
use Rattle.unit_steps.specs.UnitView.{UnitView, Asks, Over, Fits, IsOver, end_of_phase}
use Rattle.unit_steps.specs.Work.{Work, rank}
use Rattle.unit_scan.specs.Told.{rank_limit}
use Rattle.cache_machine.specs.Rows.{Row, map_of}
use Rattle.cache_machine.specs.Machine.{Worker}
use Rattle.cache_machine.specs.Rows as row
use Rattle.cache_machine.specs.Machine as machine
use Rattle.scan_core.specs.declared.seat.Seat.{Seat}
use Rattle.scan_core.specs.declared.seat.Seat.TheVariants as SeatIs

-- ## How much is left

-- what one drawn command may take
abbrev pub command_limit : ℕ
command_limit = 4 * rank_limit + 8

abbrev pub looking : Work → ℕ
looking work = 4 * rank work + 7

abbrev pub left_at : {R : Type 0} → Seat R → ℕ
left_at SeatIs.Idle = 1
left_at (SeatIs.Refused n f) = 2
left_at (SeatIs.Looks n u) = looking u.work
left_at (SeatIs.Ends n u) = 2
left_at (SeatIs.Reads n u i) = looking u.work - 1
left_at (SeatIs.Holds n u i r) = looking u.work - 2
left_at (SeatIs.Spent n) = 2
left_at SeatIs.Over = 0

-- ## What it is to the machine

abbrev pub worker_of : {R : Type 0} → (R → Content (List ℕ)) → Seat R → Worker
worker_of content SeatIs.Idle = machine.Idle
worker_of content (SeatIs.Refused n f) = machine.At n 0
worker_of content (SeatIs.Looks n u) = machine.At n (length u.answers)
worker_of content (SeatIs.Ends n u) = machine.At n (length u.answers)
worker_of content (SeatIs.Reads n u i) = machine.Claiming n (length u.answers)
worker_of content (SeatIs.Holds n u i r) = machine.Holding n (length u.answers) (content r)
worker_of content (SeatIs.Spent n) = machine.Spent n
worker_of content SeatIs.Over = machine.Over

-- ## Ends

-- the seat has the end of its job
abbrev pub HasEnd : {R : Type 0} → Seat R → Type 0
HasEnd (SeatIs.Refused n fault) = Unit {0}
HasEnd (SeatIs.Ends n u) = IsOver u.phase
HasEnd (SeatIs.Spent n) = Unit {0}
HasEnd seat = ⊥

abbrev pub seat_end : {R : Type 0} → Seat R → UnitEnd
seat_end (SeatIs.Refused n fault) = Ends.Refused fault
seat_end (SeatIs.Ends n u) = end_of_phase u.phase
seat_end seat = Ends.NoMemory

-- the number of its job
abbrev pub seat_number : {R : Type 0} → Seat R → ℕ
seat_number (SeatIs.Refused n fault) = n
seat_number (SeatIs.Ends n u) = n
seat_number (SeatIs.Spent n) = n
seat_number seat = 0

-- ## What it keeps

-- the unit scans command n, and was told what the rows have
pub record IsUnitOf (jobs : List Job) (settings : Settings) (rows : List Row) (n : ℕ) (u : UnitView) : Type 0 where
  pub job : slice_get jobs n ≡ Some (JobIs.Run u.command)
  pub settings_are : u.settings ≡ settings
  pub fits : Fits u
  pub agrees : Agrees (map_of rows) u.answers

-- the unit waits for the path of this row, which its worker claimed
pub record HasRow (rows : List Row) (w : ℕ) (u : UnitView) (place : ℕ) : Type 0 where
  pub path : List ℕ
  pub asks : u.phase ≡ Asks path
  pub claimed : slice_get rows place ≡ Some (record { path = path; held = row.Claimed w })

abbrev pub SeatFits : {R : Type 0} → List Job → Settings → List Row → ℕ → Seat R → Type 0
SeatFits jobs settings rows w (SeatIs.Refused n f) = slice_get jobs n ≡ Some (JobIs.Refused f)
SeatFits jobs settings rows w (SeatIs.Looks n u) = IsUnitOf jobs settings rows n u × ((path : List ℕ) × (u.phase ≡ Asks path))
SeatFits jobs settings rows w (SeatIs.Ends n u) = IsUnitOf jobs settings rows n u × ((end : UnitEnd) × (u.phase ≡ Over end))
SeatFits jobs settings rows w (SeatIs.Reads n u i) = IsUnitOf jobs settings rows n u × HasRow rows w u i
SeatFits jobs settings rows w (SeatIs.Holds n u i r) = IsUnitOf jobs settings rows n u × HasRow rows w u i
SeatFits jobs settings rows w seat = Unit {0}

-- ## A seat, or want of memory for it

abbrev pub seat_or_spent : {R : Type 0} → ℕ → Result (Seat R) NoMemory → Seat R
seat_or_spent n (Ok seat) = seat
seat_or_spent n (Err none) = SeatIs.Spent n
