-- What one step does to a core.
use Rattle.std.specs.Prelude.{◌≡◌, ◌<◌, List, Result}
use Rattle.std.specs.declared.result.Result.TheVariants.{Ok, Err}
use Rattle.scan_model.specs.declared.command.Settings.{Settings}
use Rattle.scan_model.specs.declared.command.Job.{Job}
use Rattle.cache_machine.specs.Machine.{Machine}
use Rattle.cache_machine.specs.Steps.{Event, act}
use Rattle.cache_machine.specs.Spending.{spend}
use Rattle.scan_core.specs.CoreView.{CoreView}
use Rattle.scan_core.specs.Events.{IsReachedCore, IsSameScan}

-- the machine after the event, by whether there was memory
abbrev pub after_step : {A E : Type 0} → Result A E → List Job → Settings → Machine → Event → Machine
after_step (Ok a) jobs settings m e = act jobs settings m e
after_step (Err none) jobs settings m e = spend jobs m e

pub record Steps (old new : CoreView) (to : Machine) : Type 0 where
  pub machine : new.machine ≡ to
  pub left : new.left < old.left
  pub scan : IsSameScan old new
  pub reached : IsReachedCore new
