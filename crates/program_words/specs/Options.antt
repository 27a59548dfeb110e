-- The options that the program has, as `clap` is told of them.
use Rattle.std.specs.Prelude.{◌≡◌, true, false, [], ◌∷◌, Some, pos, codes}
use Rattle.clap.specs.Words.{App, Rule, Text, new_app, new_rule, rule_of, with_rule}
use Rattle.clap.specs.Simple.{on_top}
use Rattle.clap.specs.declared.builder.arg.Arg.{Arg}
use Rattle.clap.specs.declared.builder.value_parser.ValueParser.TheVariants as parser

-- an option that takes a text, by its long name
abbrev pub text_rule : Text → Rule
text_rule name = record (new_rule name) { long = Some name }

abbrev pub database_rule : Rule
database_rule = text_rule (codes "compilation-database")

abbrev pub format_rule : Rule
format_rule = record (text_rule (codes "format")) { defaults = codes "p1689" ∷ [] }

-- `-j` takes a number from 1 to 64
abbrev pub workers_rule : Rule
workers_rule = record (new_rule (codes "j")) { short = Some 106; defaults = codes "4" ∷ []; parser = Some (parser.Signed (pos 1) (pos 64)) }

abbrev pub predefines_rule : Rule
predefines_rule = text_rule (codes "predefines")

abbrev pub folders_rule : Rule
folders_rule = text_rule (codes "system-dirs")

-- `--schedule` takes a number below 2 ^ 31
abbrev pub schedule_rule : Rule
schedule_rule = record (text_rule (codes "schedule")) { parser = Some (parser.Signed (pos 0) (pos 2147483647)) }

-- `--made` takes a number from 1 to 4096
abbrev pub made_rule : Rule
made_rule = record (text_rule (codes "made")) { parser = Some (parser.Signed (pos 1) (pos 4096)) }

-- the argument is that option, of this command alone
abbrev pub IsRule : Rule → Arg → Type 0
IsRule rule arg = (rule_of arg ≡ rule) × (arg.global ≡ false)

-- a command with no help flag, no version flag, no positional and no subcommand
abbrev pub bare_app : App
bare_app = on_top (λ s. record s { disable_help_flag = true }) (new_app (codes "scan_deps"))

abbrev pub app : App
app = with_rule (with_rule (with_rule (with_rule (with_rule (with_rule (with_rule bare_app database_rule) format_rule) workers_rule) predefines_rule) folders_rule) schedule_rule) made_rule
