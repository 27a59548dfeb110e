-- How a command begins, and how its unit runs on.
use Rattle.std.specs.Prelude.{◌≡◌, ℕ, ◌<◌, [], Option, Some, None}
use Rattle.scan_model.specs.declared.command.Settings.{Settings}
use Rattle.scan_model.specs.declared.command.Job.{Job}
use Rattle.scan_model.specs.declared.command.Job.TheVariants as JobIs
use Rattle.scan_model.specs.declared.unit_end.UnitEnd.{UnitEnd}
use Rattle.unit_steps.specs.UnitView.{UnitView, Over, Fits, IsAsking, IsSameScan}
use Rattle.unit_steps.specs.Work.{rank}
use Rattle.unit_scan.specs.Told.{rank_limit}
use Rattle.scan_core.specs.declared.seat.Seat.{Seat}
use Rattle.scan_core.specs.declared.seat.Seat.TheVariants as SeatIs

module _ {R : Type 0} where
  -- The unit ran on to its next path, with less left than so much, or to its end. Nothing else is a seat for it.
  abbrev pub RunsOnTo : ℕ → UnitView → ℕ → Seat R → Type 0
  RunsOnTo number unit limit (SeatIs.Looks n u) = (n ≡ number) × (IsSameScan unit u × (Fits u × (IsAsking u.phase × (rank u.work < limit))))
  RunsOnTo number unit limit (SeatIs.Ends n u) = (n ≡ number) × (IsSameScan unit u × (Fits u × ((end : UnitEnd) × (u.phase ≡ Over end))))
  RunsOnTo number unit limit seat = ⊥

  -- the first seat of a worker that drew this number, of this job or past the last
  abbrev pub IsFirstSeat : Settings → ℕ → Option Job → Seat R → Type 0
  IsFirstSeat settings number None seat = seat ≡ SeatIs.Over
  IsFirstSeat settings number (Some (JobIs.Refused fault)) seat = seat ≡ SeatIs.Refused number fault
  IsFirstSeat settings number (Some (JobIs.Run command)) seat =
      (unit : UnitView) × ((unit.command ≡ command) × ((unit.settings ≡ settings) × ((unit.answers ≡ []) × RunsOnTo number unit rank_limit seat)))
