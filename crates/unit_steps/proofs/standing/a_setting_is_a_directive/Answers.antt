use Rattle.unit_steps.proofs.SettingLines.{setting_first}
use Rattle.unit_steps.proofs.standing.a_setting_is_a_directive.Goals as goal

pub returns : goal.returns
returns c = setting_first
