-- What the record's builder makes of a module or import line.
use Rattle.std.specs.Prelude.{◌≡◌, Bool, List}
use Rattle.std.specs.declared.result.Result.TheVariants.{Ok, Err}
use Rattle.scan_model.specs.declared.token.Tok.{Tok}
use Rattle.scan_model.specs.declared.module_line.Keyword.{Keyword}
use Rattle.scan_model.specs.ModuleLines.{Builder, take}
use Rattle.plain_lines.specs.declared.action.Action.{Action}
use Rattle.plain_lines.specs.declared.action.Action.TheVariants.{Sent, Refused}

-- it has taken the line, or refused it and is unchanged
abbrev pub IsSent : Bool → Keyword → List Tok → Builder → Builder → Action → Type 0
IsSent exported keyword toks b b' Sent = take b exported keyword toks ≡ Ok b'
IsSent exported keyword toks b b' (Refused fault) = (take b exported keyword toks ≡ Err fault) × (b' ≡ b)
IsSent exported keyword toks b b' action = ⊥
