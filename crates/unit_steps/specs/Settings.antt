-- The line that a `-D` or `-U` gives.
use Rattle.std.specs.Prelude.{◌≡◌, ℕ, ◌+◌, true, List, [], ◌∷◌}
use Rattle.scan_model.specs.declared.token.Tok.{Tok}
use Rattle.scan_model.specs.declared.token.Line.{Line}
use Rattle.scan_model.specs.declared.command.Dialect.{Dialect}
use Rattle.scan_model.specs.declared.command.Setting.{Setting}
use Rattle.scan_model.specs.declared.command.Setting.TheVariants as SettingIs
use Rattle.scan_model.specs.declared.directive.Directive.{Directive}
use Rattle.scan_model.specs.declared.directive.Directive.TheVariants.{Define, Undef}
use Rattle.scan_model.specs.MacroDefinition.{read_define}
use Rattle.scan_model.specs.Spelling.{is_one_of}
use Rattle.scan_model.specs.State.{Core}
use Rattle.scan_model.specs.Effect.{Effect}
use Rattle.scan_model.specs.Directives.{directive_of, defined, undef_line}

-- its number is the setting's
abbrev pub numbered_line : ℕ → Line → Line
numbered_line number l = record l { line = number; next = number + 1 }

abbrev pub directive_of_setting : Setting → Directive
directive_of_setting (SettingIs.Define text) = Define
directive_of_setting (SettingIs.Undef text) = Undef

-- the line begins with `#` and a word that is this directive's
pub record BeginsWithDirective (kind : Directive) (l : Line) : Type 0 where
  pub hash : Tok
  pub word : Tok
  pub more : List Tok
  pub toks : l.toks ≡ hash ∷ word ∷ more
  pub is_hash : is_one_of ("#" ∷ "%:" ∷ []) hash.text ≡ true
  pub directive : (dialect : Dialect) → directive_of dialect (word ∷ more) ≡ kind

-- what the line does with these tokens after the word
abbrev pub setting_effect : {X : Type 0} → Setting → Core → Line → List Tok → Effect X
setting_effect (SettingIs.Define text) c l ts = defined c l (read_define ts)
setting_effect (SettingIs.Undef text) c l ts = undef_line c l ts
