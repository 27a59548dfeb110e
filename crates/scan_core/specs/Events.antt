-- What the calls of a core say, in the words of the machine.
use Rattle.std.specs.Prelude.{◌≡◌, ℕ, List, length, Option}
use Rattle.scan_model.specs.Files.{Content}
use Rattle.cache_machine.specs.Machine.{Machine, worker_at}
use Rattle.cache_machine.specs.Machine as machine
use Rattle.cache_machine.specs.Wants.{Want, Draw_wanted, Look_wanted, Read_wanted, Publish_wanted, End_wanted, Is_over, wants, wanted}
use Rattle.cache_machine.specs.Runs.{IsReached}
use Rattle.cache_machine.specs.Steps as step
use Rattle.cache_machine.specs.Wants as want
use Rattle.scan_core.specs.CoreView.{CoreView}
use Rattle.scan_core.specs.declared.event.Event.{Event}
use Rattle.scan_core.specs.declared.event.Event.TheVariants as EventIs
use Rattle.scan_core.specs.declared.event.Want as code
use Rattle.scan_core.specs.declared.event.Want.TheVariants as WantIs

abbrev pub event_of : {R : Type 0} → (R → Content (List ℕ)) → Event R → step.Event
event_of content (EventIs.Draw w) = step.Draw w
event_of content (EventIs.Look w) = step.Look w
event_of content (EventIs.Read w r) = step.Read w (content r)
event_of content (EventIs.Publish w) = step.Publish w
event_of content (EventIs.End w) = step.End w

abbrev pub want_of : code.Want → Want
want_of WantIs.Draw = Draw_wanted
want_of WantIs.Look = Look_wanted
want_of WantIs.Read = Read_wanted
want_of WantIs.Publish = Publish_wanted
want_of WantIs.End = End_wanted
want_of WantIs.Wait = want.Waits
want_of WantIs.Over = Is_over

-- a worker that wants this has a path
abbrev pub HasPath : Want → Type 0
HasPath Look_wanted = Unit {0}
HasPath Read_wanted = Unit {0}
HasPath Publish_wanted = Unit {0}
HasPath want.Waits = Unit {0}
HasPath other = ⊥

-- only these find want of memory
abbrev pub RunsUnit : step.Event → Type 0
RunsUnit (step.Draw w) = Unit {0}
RunsUnit (step.Look w) = Unit {0}
RunsUnit (step.Publish w) = Unit {0}
RunsUnit e = ⊥

-- the core's machine is one that some moves from the start lead to
abbrev pub IsReachedCore : CoreView → Type 0
IsReachedCore c = IsReached c.jobs c.settings (length c.machine.workers) c.machine

pub record IsSameScan (old new : CoreView) : Type 0 where
  pub jobs : new.jobs ≡ old.jobs
  pub settings : new.settings ≡ old.settings
  pub workers : length new.machine.workers ≡ length old.machine.workers

abbrev pub core_wants : CoreView → ℕ → Want
core_wants c w = wants c.jobs c.settings c.machine w

abbrev pub core_wanted : CoreView → ℕ → Option (List ℕ)
core_wanted c w = wanted c.jobs c.settings c.machine w

-- the event is what its worker wants
abbrev pub IsWanted : CoreView → step.Event → Type 0
IsWanted c (step.Draw w) = core_wants c w ≡ Draw_wanted
IsWanted c (step.Look w) = core_wants c w ≡ Look_wanted
IsWanted c (step.Read w content) = core_wants c w ≡ Read_wanted
IsWanted c (step.Publish w) = core_wants c w ≡ Publish_wanted
IsWanted c (step.End w) = core_wants c w ≡ End_wanted

-- whose event it is
abbrev pub worker_in : step.Event → ℕ
worker_in (step.Draw w) = w
worker_in (step.Look w) = w
worker_in (step.Read w content) = w
worker_in (step.Publish w) = w
worker_in (step.End w) = w

-- the worker is out of memory in a job
abbrev pub IsSpent : Machine → ℕ → Type 0
IsSpent m w = (n : ℕ) × (worker_at m w ≡ machine.Spent n)
