-- A command that is told of one more option.
use Rattle.std.proofs.Common.{◌≡◌, Result, Ok, Err, IfOk, ap₂, ◌∙◌}
use Rattle.clap.specs.Words.{AddsArg, App, Rule, app_of, with_rule}
use Rattle.clap.specs.declared.builder.arg.Arg.{Arg}
use Rattle.clap.specs.declared.builder.command.Command.{Command}
use Rattle.program_words.specs.Options.{IsRule}

pub with_option : (old new : Command) (arg : Arg) (app : App) (rule : Rule) → AddsArg old arg new → app_of old ≡ app → IsRule rule arg → app_of new ≡ with_rule app rule
with_option old new arg app rule adds is own = adds.shape own.1 ∙ ap₂ with_rule is own.0

pub last_option : {E : Type 0} (old : Command) (arg : Arg) (app : App) (rule : Rule) (added : Result Command E) → IfOk added (λ new. AddsArg old arg new) → app_of old ≡ app → IsRule rule arg → IfOk added (λ new. app_of new ≡ with_rule app rule)
last_option old arg app rule (Ok new) adds is own = with_option old new arg app rule adds is own
last_option old arg app rule (Err e) adds is own = tt
