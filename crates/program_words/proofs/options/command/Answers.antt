use Rattle.std.proofs.Common.{ap, ◌∙◌}
use Rattle.std.specs.Prelude.{true}
use Rattle.clap.specs.Simple.{app_of_fields, on_top}
use Rattle.program_words.proofs.OptionLemmas.{with_option, last_option}
use Rattle.program_words.specs.Options.{bare_app, database_rule, format_rule, workers_rule, predefines_rule, folders_rule, schedule_rule, made_rule}
use Rattle.program_words.proofs.options.command.Goals as goal

pub returns : goal.returns
returns c =
    let zero = ap app_of_fields c.disable_help_flag.ensures ∙ ap (on_top (λ s. record s { disable_help_flag = true })) c.new.ensures.app in
    let one = with_option _ c.in_ok-arg.field-0 c.database_option.result bare_app database_rule c.in_ok-arg.ensures zero c.database_option.ensures in
    let two = with_option _ c.in_ok-arg-2.field-0 c.format_option.result _ format_rule c.in_ok-arg-2.ensures one c.format_option.ensures in
    let three = with_option _ c.in_ok-arg-3.field-0 c.workers_option.result _ workers_rule c.in_ok-arg-3.ensures two c.workers_option.ensures in
    let four = with_option _ c.in_ok-arg-4.field-0 c.predefines_option.result _ predefines_rule c.in_ok-arg-4.ensures three c.predefines_option.ensures in
    let five = with_option _ c.in_ok-arg-5.field-0 c.folders_option.result _ folders_rule c.in_ok-arg-5.ensures four c.folders_option.ensures in
    let six = with_option _ c.in_ok-arg-6.field-0 c.schedule_option.result _ schedule_rule c.in_ok-arg-6.ensures five c.schedule_option.ensures in
    last_option _ c.made_option.result _ made_rule c.arg-7.result c.arg-7.ensures six c.made_option.ensures
