-- What callers see of a core: what it scans, the machine's state, and how much is left.
use Rattle.std.specs.Prelude.{ℕ, List}
use Rattle.scan_model.specs.declared.command.Settings.{Settings}
use Rattle.scan_model.specs.declared.command.Job.{Job}
use Rattle.cache_machine.specs.Machine.{Machine}

pub record CoreView : Type 0 where
  pub jobs : List Job
  pub settings : Settings
  pub machine : Machine
  -- falls with each step
  pub left : ℕ
