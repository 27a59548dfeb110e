-- A unit that runs on, from its start or from an answer.
use Rattle.std.proofs.Common.{◌≡◌, ◌<◌, ℕ, [], refl, sym, ◌∙◌, subst, Some, arith}
use Rattle.std.specs.Prelude.{IfOk, Result}
use Rattle.std.specs.declared.result.Result.TheVariants.{Ok, Err}
use Rattle.scan_model.specs.declared.memory.NoMemory.{NoMemory}
use Rattle.scan_model.specs.declared.command.Settings.{Settings}
use Rattle.scan_model.specs.declared.command.Command.{Command}
use Rattle.scan_model.specs.declared.command.Job.TheVariants as JobIs
use Rattle.scan_model.specs.declared.unit_end.UnitEnd.{UnitEnd}
use Rattle.scan_model.specs.Files.{Present, Absent, Failed, Big}
use Rattle.scan_model.specs.Files as files
use Rattle.unit_laws.specs.Reduction.{Given}
use Rattle.unit_steps.specs.UnitView.{UnitView, Phase, Asks, Over, Runs, Spent, IsReady, IsOver, phase_after, given}
use Rattle.unit_steps.specs.Work.{rank}
use Rattle.unit_scan.specs.Told.{rank_limit}
use Rattle.scan_core.specs.declared.seat.Seat.{Seat}
use Rattle.scan_core.specs.declared.seat.Seat.TheVariants as SeatIs
use Rattle.scan_core.specs.Running.{RunsOnTo, IsFirstSeat}

-- a unit that is over with memory has its end
pub over_end : (phase : Phase) → IsOver phase → (phase ≡ Spent → ⊥) → (end : UnitEnd) × (phase ≡ Over end)
over_end (Over end) h not = (end, refl)
over_end Spent h not = absurd (not refl)
over_end Runs h not = absurd h
over_end (Asks path) h not = absurd h

-- after an answer it is ready, and not without memory
pub ready_after : (told : Given) → IsReady (phase_after told)
ready_after (Present lines) = tt
ready_after Absent = tt
ready_after Failed = tt
ready_after Big = tt
ready_after files.NoMemory = tt

pub memory_after : (told : Given) → phase_after told ≡ Spent → ⊥
memory_after (Present lines) h = cc
memory_after Absent h = cc
memory_after Failed h = cc
memory_after Big h = cc
memory_after files.NoMemory h = cc

module _ {R : Type 0} where
  runs_below : (n a b : ℕ) (u : UnitView) (seat : Seat R) → a < b → RunsOnTo n u a seat → RunsOnTo n u b seat
  runs_below n a b u (SeatIs.Looks m v) less h = (h.0, (h.1.0, (h.1.1.0, (h.1.1.1.0, (let k = h.1.1.1.1 in omega arith)))))
  runs_below n a b u (SeatIs.Ends m v) less h = h
  runs_below n a b u SeatIs.Idle less h = absurd h
  runs_below n a b u (SeatIs.Refused m f) less h = absurd h
  runs_below n a b u (SeatIs.Reads m v i) less h = absurd h
  runs_below n a b u (SeatIs.Holds m v i r) less h = absurd h
  runs_below n a b u (SeatIs.Spent m) less h = absurd h
  runs_below n a b u SeatIs.Over less h = absurd h

  pub first_run : (settings : Settings) (n : ℕ) (command : Command) (u : UnitView) (result : Result (Seat R) NoMemory) → u.command ≡ command → u.settings ≡ settings → u.answers ≡ [] → rank u.work < rank_limit →
      IfOk result (RunsOnTo n u (rank u.work)) → IfOk result (IsFirstSeat settings n (Some (JobIs.Run command)))
  first_run settings n command u (Ok seat) is settings_are none less h = (u, (is, (settings_are, (none, runs_below n (rank u.work) rank_limit u seat less h))))
  first_run settings n command u (Err e) is settings_are none less h = tt

  pub told_run : (n : ℕ) (u v : UnitView) (is told : Given) (result : Result (Seat R) NoMemory) → v ≡ given u is → is ≡ told → IfOk result (RunsOnTo n v (rank v.work)) →
      IfOk result (RunsOnTo n (given u told) (rank u.work))
  told_run n u v is told result value same h =
      subst (λ z. IfOk result (RunsOnTo n (given u z) (rank u.work))) same (subst (λ (z : UnitView). IfOk result (RunsOnTo n z (rank z.work))) value h)

pub run_ready : (phase : Phase) → phase ≡ Runs → IsReady phase
run_ready phase h = subst IsReady (sym h) tt

pub run_memory : (phase : Phase) → phase ≡ Runs → phase ≡ Spent → ⊥
run_memory phase h k = let no : Runs ≡ Spent = sym h ∙ k in cc
