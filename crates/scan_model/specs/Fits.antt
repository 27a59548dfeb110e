-- The commands, jobs and settings that a unit takes.
use Rattle.std.specs.Prelude.{◌+◌, ◌≤◌, ⊤, length}
use Rattle.std.specs.List.{All}
use Rattle.scan_model.specs.declared.command.Command.{Command}
use Rattle.scan_model.specs.declared.command.Job.{Job}
use Rattle.scan_model.specs.declared.command.Job.TheVariants.{Run, Refused}
use Rattle.scan_model.specs.declared.command.Settings.{Settings}
use Rattle.scan_model.specs.Limits.{file_limit}
use Rattle.scan_model.specs.WholeUnit.{setting_text}

-- no setting's text is too long, and the settings, forced files and folders are together not too many
pub record CommandFits (c : Command) : Type 0 where
  pub texts : All (λ setting. length (setting_text setting) ≤ file_limit) c.settings
  pub number : length c.settings + length c.forced + length c.search.quote + length c.search.angled + length c.search.system + length c.search.after ≤ file_limit

-- the command of a job does
abbrev pub JobFits : Job → Type 0
JobFits (Run command) = CommandFits command
JobFits (Refused fault) = ⊤

-- the program's folders are not too many
abbrev pub SettingsFit : Settings → Type 0
SettingsFit s = length s.program ≤ file_limit
