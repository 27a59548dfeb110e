-- What every moment of every run has, as one record, which each step keeps.
use Rattle.std.specs.Prelude.{◌≡◌, ℕ, ◌+◌, min, List, length, slice_get, Some}
use Rattle.scan_model.specs.declared.command.Settings.{Settings}
use Rattle.scan_model.specs.declared.command.Job.{Job}
use Rattle.scan_model.specs.declared.unit_end.UnitEnd.{UnitEnd}
use Rattle.cache_machine.specs.Rows.{Claimed, held_at}
use Rattle.cache_machine.specs.Machine.{Machine, worker_at}
use Rattle.cache_machine.specs.RowGrowth.{RowsDiffer}
use Rattle.cache_machine.specs.WorkerRows.{WorkerFits, IsClaimant}
use Rattle.cache_machine.specs.Numbers.{workers_in, ended, drawn_once, overs}
use Rattle.cache_machine.specs.Laws.{IsEndAt}

pub record IsSound (jobs : List Job) (settings : Settings) (m : Machine) : Type 0 where
  pub differ : RowsDiffer m.rows
  pub workers : (w : ℕ) → WorkerFits jobs settings m.rows w (worker_at m w)
  pub claims : (path : List ℕ) (w : ℕ) → held_at m.rows path ≡ Some (Claimed w) → IsClaimant jobs settings m.rows path (worker_at m w)
  pub numbers : (n : ℕ) → workers_in n m.workers + ended (slice_get m.ends n) ≡ drawn_once jobs m.next n
  pub over : min m.next (length jobs) + overs m.workers ≡ m.next
  pub ends : (n : ℕ) (end : UnitEnd) → slice_get m.ends n ≡ Some (Some end) → IsEndAt jobs settings m.rows n end
  pub jobs_ends : length m.ends ≡ length jobs
